use Rattle.std.proofs.Common.{◌++◌, ◌∷◌, [], List, Some, None, subst, sym}
use Rattle.evo_declarations.specs.Worlds.{world_of}
use Rattle.evo_members.specs.declared.located.Located.{Located}
use Rattle.evo_members.specs.Located.{start_of}
use Rattle.evo_type_names.specs.declared.walk.Outcome.{Outcome}
use Rattle.evo_type_names.specs.Known.{IsTried}
use Rattle.evo_type_names.specs.Resolving.{IsOn}
use Rattle.evo_type_names.proofs.Stacks.{circle, off_both, on_front, on_last, turned_noted, turned_pushed}
use Rattle.evo_type_names.proofs.Lists.{not_both}
use Rattle.evo_type_names.proofs.resolving.turn.Goals.{then-is_same_place-via-then-is_same_place, then-is_same_place-via-else-is_same_place+then-is_on}
use Rattle.evo_type_names.proofs.resolving.turn.Goals as goal

pub returns-then-is_same_place : goal.returns-then-is_same_place
returns-then-is_same_place c =
    let w = world_of c.args.space.now.world in
    let demands = subst (λ (o : Outcome). IsTried w (start_of w c.args.top) o) c.in-Wants.is c.in_ok-meaning.ensures in
    let on : IsOn (c.args.stack.now.items ++ c.args.top ∷ []) c.in-Wants.next = elim c.then-is_same_place.branch [
      | then-is_same_place-via-then-is_same_place v ↦ on_last c.args.stack.now.items c.args.top c.in-Wants.next (c.is_same_place.ensures.0 v.if-is_same_place.true)
      | then-is_same_place-via-else-is_same_place+then-is_on v ↦ on_front c.args.stack.now.items c.args.top c.in-Wants.next (subst (λ (l : List Located). IsOn l c.in-Wants.next) v.as_slice-else-is_same_place.ensures.value (v.is_on.ensures.0 v.if-is_on.true))
    ] in
    turned_noted w c.args.known.now.items _ c.args.stack.now.items c.args.top None c.requires.0 c.requires.1 c.requires.2 (circle w c.args.top c.args.stack.now.items c.in-Wants.next c.requires.1 demands on) c.in_ok-note-in-Wants.ensures

pub returns-in_ok-note-in-Means : goal.returns-in_ok-note-in-Means
returns-in_ok-note-in-Means c =
    let w = world_of c.args.space.now.world in
    turned_noted w c.args.known.now.items _ c.args.stack.now.items c.args.top (Some c.in-Means.meaning) c.requires.0 c.requires.1 c.requires.2 (subst (λ (o : Outcome). IsTried w (start_of w c.args.top) o) c.in-Means.is c.in_ok-meaning.ensures) c.in_ok-note-in-Means.ensures

pub returns-in_ok-note-in-Nothing : goal.returns-in_ok-note-in-Nothing
returns-in_ok-note-in-Nothing c =
    let w = world_of c.args.space.now.world in
    turned_noted w c.args.known.now.items _ c.args.stack.now.items c.args.top None c.requires.0 c.requires.1 c.requires.2 (subst (λ (o : Outcome). IsTried w (start_of w c.args.top) o) c.in-Nothing.is c.in_ok-meaning.ensures) c.in_ok-note-in-Nothing.ensures

pub returns-in_ok-push-in-Wants-2 : goal.returns-in_ok-push-in-Wants-2
returns-in_ok-push-in-Wants-2 c =
    let w = world_of c.args.space.now.world in
    turned_pushed w c.args.known.now.items c.args.stack.now.items _ _ c.args.top c.in-Wants.next c.requires.0 c.requires.1 c.requires.2 (off_both c.args.stack.now.items c.args.top c.in-Wants.next (λ same. not_both c.is_same_place.result c.if-is_same_place.false (c.is_same_place.ensures.1 same)) (λ on. not_both c.is_on.result c.if-is_on.false (c.is_on.ensures.1 (subst (λ (l : List Located). IsOn l c.in-Wants.next) (sym c.as_slice-else-is_same_place.ensures.value) on)))) (subst (λ (o : Outcome). IsTried w (start_of w c.args.top) o) c.in-Wants.is c.in_ok-meaning.ensures) c.in_ok-push-in-Wants.ensures.items c.in_ok-push-in-Wants-2.ensures.items
