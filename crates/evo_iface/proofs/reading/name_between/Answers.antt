use Rattle.std.proofs.Common.{rules, ◌≡◌, List, ℕ, ◌++◌, sym, ◌∙◌, ap, subst}
use Rattle.std.specs.Str.{IsUtf8}
use Rattle.std.proofs.lemmas.List.{append_cancel_left}
use Rattle.evo_iface.proofs.Fronts.{stripped, not_stripped, front_is, rest_is, whole_is}
use Rattle.evo_iface.proofs.reading.name_between.Goals as goal

pub returns-in_default : goal.returns-in_default
returns-in_default c m more plain e = not_stripped c.args.text.now c.args.before.now (m ++ (c.args.behind.now ++ more)) c.in_default.ensures.cases e

pub returns-in_default-strip_prefix : goal.returns-in_default-strip_prefix
returns-in_default-strip_prefix c m more plain e =
    let first = stripped c.args.text.now c.args.before.now c.in-Some.text.now c.in-Some.ensures.cases.0 c.in-Some.ensures.cases.1 in
    let behind = append_cancel_left c.args.before.now c.in-Some.text.now (m ++ (c.args.behind.now ++ more)) (sym first ∙ e) in
    not_stripped c.split_at.result.1.now c.args.behind.now more c.in_default-strip_prefix.ensures.cases
    (rest_is c.args.behind.now c.in-Some.text.now c.split_at.result.0.now c.split_at.result.1.now _ c.requires c.length_before_byte.ensures.value c.split_at.ensures.front c.split_at.ensures.back m more plain.lacks behind)

pub returns-in_default-2 : goal.returns-in_default-2
returns-in_default-2 c m more plain e =
    let first = stripped c.args.text.now c.args.before.now c.in-Some.text.now c.in-Some.ensures.cases.0 c.in-Some.ensures.cases.1 in
    let behind = append_cancel_left c.args.before.now c.in-Some.text.now (m ++ (c.args.behind.now ++ more)) (sym first ∙ e) in
    let no = rw c.in_default-2.is at c.in_ok-name.ensures in
    no (subst IsUtf8 (front_is c.args.behind.now c.in-Some.text.now c.split_at.result.0.now c.split_at.result.1.now _ c.requires c.length_before_byte.ensures.value c.split_at.ensures.front c.split_at.ensures.back m more plain.lacks behind) plain.utf8)

pub returns : goal.returns
returns c =
    let first = stripped c.args.text.now c.args.before.now c.in-Some.text.now c.in-Some.ensures.cases.0 c.in-Some.ensures.cases.1 in
    let last = stripped c.split_at.result.1.now c.args.behind.now c.in-Some-strip_prefix.rest.now c.in-Some-strip_prefix.ensures.cases.0 c.in-Some-strip_prefix.ensures.cases.1 in
    let name : c.in-Some-2.name ≡ c.split_at.result.0.now = search rules in
    rw name (record {
      whole = first ∙ ap (λ (l : List ℕ). c.args.before.now ++ l) (whole_is c.args.behind.now c.in-Some.text.now c.split_at.result.0.now c.split_at.result.1.now _ c.requires c.length_before_byte.ensures.value c.split_at.ensures.front c.split_at.ensures.back ∙ ap (λ (l : List ℕ). c.split_at.result.0.now ++ l) last);
      only = λ m more plain e.
          let behind = append_cancel_left c.args.before.now c.in-Some.text.now (m ++ (c.args.behind.now ++ more)) (sym first ∙ e) in (
            front_is c.args.behind.now c.in-Some.text.now c.split_at.result.0.now c.split_at.result.1.now _ c.requires c.length_before_byte.ensures.value c.split_at.ensures.front c.split_at.ensures.back m more plain.lacks behind,
            append_cancel_left c.args.behind.now more c.in-Some-strip_prefix.rest.now (sym (rest_is c.args.behind.now c.in-Some.text.now c.split_at.result.0.now c.split_at.result.1.now _ c.requires c.length_before_byte.ensures.value c.split_at.ensures.front c.split_at.ensures.back m more plain.lacks behind) ∙ last),
          );
    })
