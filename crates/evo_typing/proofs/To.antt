-- What a form resolves to, with its types, holds by its rule.
use Rattle.std.proofs.Common.{◌≡◌, List, [], ◌∷◌, map, length, Option, Some, None, Bool, true, false, Ok, inl, inr, refl, sym, subst}
use Rattle.evo_base.specs.declared.place.Place.{Place}
use Rattle.evo_base.specs.declared.key.Key.{Key}
use Rattle.evo_tree.specs.declared.module.SourceFault.{SourceFault}
use Rattle.evo_tree.specs.declared.name.Identifier.{Identifier}
use Rattle.evo_tree.specs.declared.expression.InfixOperator.{InfixOperator}
use Rattle.evo_tree.specs.declared.expression.Expr.{Expr, Expr-F, out-Expr}
use Rattle.evo_tree.specs.declared.expression.Expr.TheOpen as ex
use Rattle.evo_resolved.specs.declared.resolved_type.RType.{RType}
use Rattle.evo_resolved.specs.declared.resolved_type.RTypeName.{RTypeName}
use Rattle.evo_resolved.specs.declared.path.ConfPath.{ConfPath}
use Rattle.evo_resolved.specs.declared.expression.Reach.{Reach}
use Rattle.evo_resolved.specs.declared.expression.Builtin.TheVariants as builtin
use Rattle.evo_resolved.specs.declared.expression.RUse.{RUse}
use Rattle.evo_resolved.specs.declared.expression.RExpr.{RExpr}
use Rattle.evo_resolved.specs.declared.expression.RExpr.TheVariants as x
use Rattle.evo_resolved.specs.declared.expression.RMember.{RMember}
use Rattle.evo_resolved.specs.declared.expression.RMember.TheVariants as y
use Rattle.evo_judging.specs.Judge.{EachOf, each}
use Rattle.evo_resolved.specs.declared.expression.Literal.TheVariants as literal
use Rattle.evo_names.specs.Typing.{is_message, is_message_level}
use Rattle.evo_typing.specs.Shapes.{Shape, Found, Named, Meaning, Env, Denoted, value, names, Before, before}
use Rattle.evo_typing.specs.Trees.{place_of, chooser_place, given, Slot, slots, paired, last_type, type_of, has_value}
use Rattle.evo_typing.specs.Typed.{Typed, TypedOperands, one_operand, TypedMembers, one_member, TypedMember, TypedUse, AllHave, none_left, one_more, TypedPrinted, one_printed, AllEqual, one_equal}
use Rattle.evo_typing.specs.Typed as typing
use Rattle.evo_typing.specs.Places as places
use Rattle.evo_typing.specs.Places.{Chain, at_value, at_type, denoted, begun, root_of, steps_of}
use Rattle.evo_typing.specs.Resolves.{Arguments, Stands, Converts, Paths, no_path, one_path, Equals, no_equal, equals, AllSet, none_set, one_set, AreMessages, Resolves, level, ResolvesLevel, ResolvesOperands, operands_end, operands_more, ResolvesChain, chain_end, of_value, of_type, ResolvesMeaning, a_local, an_own, a_named, a_print, a_precondition, a_fatal, ResolvesPrinted, printed_end, printed_more, ResolvesNamed, named_case, named_free, named_new, named_type, ResolvesBehind, ResolvesAbove, ResolvesUse, ResolvesArguments, arguments_end, arguments_chooser, arguments_other}
use Rattle.evo_typing.specs.Resolves as resolving
use Rattle.evo_typing.specs.Rule as rule
use Rattle.evo_typing.specs.Rule.{Tells, kept_if}
use Rattle.evo_typing.specs.Infer.{Is, Sound, a_part}
use Rattle.evo_typing.specs.Known.{Known, KnowsMeaning, KnowsNamed}
use Rattle.evo_typing.proofs.Forms as form
use Rattle.evo_typing.proofs.Forms.{converts_is}
use Rattle.evo_typing.proofs.From.{slot_params}

module _ (env : Env) (known : Known env) where
  abbrev S : Expr → Expr
  S a = a

  abbrev Has : RExpr → Type 0
  Has b = Typed env.declared env.scope b

  -- ---- parts

  pub plain_to : {w : Option RType} {a : Expr} {b : RExpr} → Resolves env w a (value b) → Has b → (rule.plain (a_part env) (λ a. a) env w a).holds b
  plain_to {b} r h = (value b, (r, h), refl)

  pub valued_to : {w : Option RType} {a : Expr} {b : RExpr} → Resolves env w a (value b) → Has b → has_value (type_of b) ≡ true → (rule.valued (a_part env) (λ a. a) env w a).holds b
  valued_to {b} r h is = (b, plain_to r h, (tt, is, refl))

  -- a conversion that has types, to the type that is expected
  pub fitted_to : {b c : RExpr} (a : Expr) (t : RType) → Converts b c → Has c → type_of c ≡ t → Has b × (rule.fitted (a_part env) (λ a. a) env a b t).holds c
  fitted_to {b} {c} a t con h is = let k = converts_is env con h in (k.0, subst (λ t. (rule.fitted (a_part env) (λ a. a) env a b t).holds c) is k.1)

  -- ---- searches

  sought_to : {B : Type 0} (p : Place) (as' : Arguments) (f : B) → (rule.sought (a_part env) (λ a. a) env p (Ok f) as').holds f
  sought_to p as' f = refl

  checked_to : (t : Bool) (f : SourceFault) (as' : Arguments) → t ≡ true → (rule.checked (a_part env) (λ a. a) env t f as').holds tt
  checked_to true f as' e = refl
  checked_to false f as' e = absurd (cc e)

  -- ---- uses

  standing_to : (s : Shape) (ts : List RType) (p : Place) (t v : RType) → Stands env s ts t v → (rule.standing (a_part env) (λ a. a) env s ts p t).holds v
  standing_to s ts p t v h = (Some v, h.0, (v, refl, (tt, h.1, refl)))

  -- what the arguments have is what the parameters stand for
  same_type : (s : Shape) {ts : List RType} {t u v : RType} → Stands env s ts t u → env.declared.stands s.signature ts t v → u ≡ v
  same_type s {ts} {t} {u} {v} h k = known.one.declared_type s.signature ts t u v (known.stands s.signature ts t u h.0) k

  abbrev BothOf : Shape → List RType → Place → List (Slot Expr) → List (Option RExpr) → List RExpr → Type 0
  BothOf s ts p ss own bs = EachOf (λ q. (rule.chooser (a_part env) (λ a. a) env q).holds) ss own × EachOf (λ q. (rule.filled (a_part env) (λ a. a) env s ts p q).holds) (paired ss own) bs

  chooser_to : (q : Slot Expr) (t : Bool) (o : Option RExpr) → q.chooses ≡ t → (rule.chooser_if (a_part env) (λ a. a) env t q.arg).holds o → (rule.chooser (a_part env) (λ a. a) env q).holds o
  chooser_to q t o is h = subst (λ t. (rule.chooser_if (a_part env) (λ a. a) env t q.arg).holds o) (sym is) h

  args_to : (s : Shape) {ts : List RType} (p : Place) {ss : List (Slot Expr)} {own : List (Option RExpr)} {bs : List RExpr} → ResolvesArguments env s ts ss own bs → AllHave env.declared env.scope s.signature ts (map (λ q. q.param) ss) bs → BothOf s ts p ss own bs
  args_to s p arguments_end h = (tt, tt)
  args_to s {ts} p (arguments_chooser {a = q} {t} {b} {c} is r v st con rest) (one_more at h hs) =
      let (ks, fs) = args_to s p rest hs in
      let (hb, fit) = fitted_to q.arg t con h (sym (same_type s st at)) in
      ((chooser_to q true (Some b) is (b, valued_to r hb v, refl), ks), ((t, standing_to s ts p q.param t st, inr (b, refl, fit)), fs))
  args_to s {ts} p (arguments_other {a = q} {t} {b} {c} is st r con rest) (one_more at h hs) =
      let (ks, fs) = args_to s p rest hs in
      let (hb, fit) = fitted_to q.arg t con h (sym (same_type s st at)) in
      ((chooser_to q false None is refl, ks), ((t, standing_to s ts p q.param t st, inl (refl, (b, plain_to r hb, fit))), fs))

  paths_to : (s : Shape) {ts : List RType} (place : RType → Place) {rs : List (RType × Key)} {qs : List ConfPath} → Paths env s ts rs qs → (each (rule.path (a_part env) (λ a. a) env s ts place) rs).holds qs
  paths_to s place no_path = tt
  paths_to s {ts} place (one_path {t} {u} {q} st is rest) = ((u, standing_to s ts (place t) t u st, (Some q, is, refl)), paths_to s place rest)

  abbrev units : {A : Type 0} → List A → List (Unit {0})
  units xs = map (λ x. tt) xs

  equals_to : (s : Shape) {ts : List RType} (place : RType → Place) {rs : List (RType × RType)} → Equals env s ts rs → (each (rule.equal (a_part env) (λ a. a) env s ts place) rs).holds (units rs)
  equals_to s place no_equal = tt
  equals_to s {ts} place (equals {t} {u} {v} h k rest) = ((v, standing_to s ts (place t) t v h, (v, standing_to s ts (place u) u v k, (true, refl, refl))), equals_to s place rest)

  using_to : {b : Before} {f : Found} {t : Option RTypeName} {p : Place} {as' : Arguments} {u : RUse} {bs : List RExpr} → env.declared.shape f.key f.shape → ResolvesUse env f t p as' u bs → TypedUse env.declared env.scope b u bs → (rule.using (a_part env) (λ a. a) env f t p as').holds (u, bs)
  using_to {b} knows (resolving.used {f} {t} {p} {as'} {own} {ts} {bs} {qs} {u} is_even is_ts args ps es there st) (typing.used shape fits have) =
      let same : shape ≡ f.shape = known.one.declared f.key shape f.shape fits.is knows in
      let have = subst (λ s. AllHave env.declared env.scope s.signature ts s.params bs) same have in
      let place : RType → Place = λ r. chooser_place place_of (slots f as') r p in
      let k = args_to f.shape p args (subst (λ ps. AllHave env.declared env.scope f.shape.signature ts ps bs) (sym (slot_params (length f.given) f.shape.params 0 f.shape.params as' is_even)) have) in
      (tt, checked_to _ _ as' is_even, (own, k.0, (ts, is_ts, (bs, k.1, (qs, paths_to f.shape place ps, (units f.shape.equal, equals_to f.shape place es, (tt, there, (u, standing_to f.shape ts p f.shape.result u st, refl))))))))

  -- ---- names without a value before them

  named_to : {n : Named} {t : Option RTypeName} {p : Place} {as' : Option Arguments} {b : Denoted} → KnowsNamed env n → ResolvesNamed env n t p as' b → Sound env b → (rule.named (a_part env) (λ a. a) env n t p as').holds b
  named_to knows (named_case {u} {bs} r) h = ((u, bs), using_to knows.0 r (form.in_case h), refl)
  named_to knows (named_free {u} {bs} r) h = ((u, bs), using_to knows.0 r (form.in_call h), refl)
  named_to knows (named_new {u} {bs} r) h = ((u, bs), using_to knows.0 r (form.in_new h), refl)
  named_to knows (named_type is) h = (tt, is, refl)

  -- ---- members

  abbrev TypedChain : Chain → Type 0
  TypedChain m = places.TypedChain env.declared env.scope m

  denoted_back : (c : Chain) → Sound env (denoted c) → TypedChain c
  denoted_back (at_value b []) h = (h, typing.no_member)
  denoted_back (at_value b (n ∷ ns)) h = form.in_members h
  denoted_back (at_type t) h = tt

  begun_back : (b : Denoted) → TypedChain (begun b) → Sound env b
  begun_back (value b) h = h.0
  begun_back (names t) h = tt

  sets_to : (p : Place) {us : List RUse} → AllSet env us → (each (rule.set (a_part env) (λ a. a) env p) us).holds (units us)
  sets_to p none_set = tt
  sets_to p (one_set s h is rest) = ((Some s, h, (s, refl, is)), sets_to p rest)

  behind_to : {t : Bool} {f : Found} {b : RExpr} {ns : List RMember} {p : Place} {as' : Option Arguments} {m : Chain} → env.declared.shape f.key f.shape → ResolvesBehind env t f b ns p as' m → TypedChain m → TypedChain (at_value b ns) × (rule.behind (a_part env) (λ a. a) env t f b ns p as').holds m
  behind_to knows (ResolvesBehind.property {b} {ns} {u} r) h =
      let (ts, k) = form.unsnoc (type_of b) ns (y.Property u) h.1 in
      ((h.0, ts), (y.Property u, ((u, []), using_to knows r (form.in_property k), refl), refl))
  behind_to knows (ResolvesBehind.calling {b} {ns} {u} {bs} r) h =
      let (ts, k) = form.unsnoc (type_of b) ns (y.Called (u, bs)) h.1 in
      ((h.0, ts), (y.Called (u, bs), ((u, bs), using_to knows r (form.in_called k), refl), refl))
  behind_to knows (ResolvesBehind.mutating {b} {ns} {p} {u} {bs} {c = m} r t is_m set) h =
      let k = form.mutated_back env b (root_of env b ns) u bs m is_m h in
      (t, ((u, bs), using_to knows r k.1, (m, is_m, (units (steps_of (root_of env b ns)), sets_to p set, refl))))

  in_self : (q : Place) (v : RType) {u : RUse} {bs : List RExpr} → Has (x.Members (x.SelfValue q v) (y.Called (u, bs) ∷ [])) → TypedUse env.declared env.scope (before (type_of (x.SelfValue q v))) u bs
  in_self q v {u} {bs} h = go (form.in_members h).1
    where
      go : TypedMembers env.declared env.scope (type_of (x.SelfValue q v)) (y.Called (u, bs) ∷ []) → TypedUse env.declared env.scope (before (type_of (x.SelfValue q v))) u bs
      go (one_member k ks) = form.in_called k

  above_to : {s : Reach} {f : Found} {v : RType} {q p : Place} {as' : Arguments} {b : Denoted} → env.declared.shape f.key f.shape → ResolvesAbove env s f v q p as' b → Sound env b → (rule.above (a_part env) (λ a. a) env s f v q p as').holds b
  above_to knows (ResolvesAbove.dispatched {u} {bs} r) h = ((u, bs), using_to knows r (form.in_super h).2, refl)
  above_to knows (ResolvesAbove.static {v} {q} {u} {bs} r) h = ((u, bs), using_to knows r (in_self q v h), refl)
  above_to knows (ResolvesAbove.witness {v} {q} {u} {bs} r) h = ((u, bs), using_to knows r (in_self q v h), refl)

  -- ---- names that stand alone

  printed_to : {as' : Arguments} {bs : List RExpr} → ResolvesPrinted env as' bs → TypedPrinted env.declared env.scope bs → (each (rule.printed (a_part env) (λ a. a) env) as').holds bs
  printed_to printed_end h = tt
  printed_to (printed_more {b} r rs) (one_printed is h hs) = ((b, plain_to r h, (tt, is, refl)), printed_to rs hs)

  -- a literal string is one, with its type
  message_to : (e : Expr) → is_message e ≡ true → (b : RExpr) × Is env None e (value b)
  message_to e is = go (out-Expr e) refl is
    where
      go : (l : Expr-F Expr) → out-Expr e ≡ l → is_message_level l ≡ true → (b : RExpr) × Is env None e (value b)
      go (ex.String p s) out is = (x.Literal (literal.String s), (level (subst (λ l. ResolvesLevel env None l (value (x.Literal (literal.String s)))) (sym out) ResolvesLevel.text), form.put _ _ (x.outs-Literal _) typing.TypedLevel.written))
      go l out is = absurd (cc is)

  messages_to : (as' : Arguments) → AreMessages as' → (each (rule.message (a_part env) (λ a. a) env) as').holds (units as')
  messages_to [] h = tt
  messages_to (a ∷ as') (is, h) = let (b, k) = message_to a.1 is in ((b, plain_to k.0 k.1, is), messages_to as' h)

  meaning_to : {m : Meaning} {p : Place} {as' : Option Arguments} {b : Denoted} → KnowsMeaning env m → ResolvesMeaning env m p as' b → Sound env b → (rule.meaning (a_part env) (λ a. a) env m p as').holds b
  meaning_to knows a_local h = refl
  meaning_to knows (an_own {v} {c = m} is r) h = (v, is, (m, (behind_to (knows v is).0 r (denoted_back m h)).1, refl))
  meaning_to knows (a_named r) h = named_to knows r h
  meaning_to knows (a_print {bs} r) h = (bs, printed_to r (form.in_print h), refl)
  meaning_to knows (a_precondition {p} {l} {e} {ms} {b} is r m) h =
      let k = form.in_precondition h in
      subst (λ l. (rule.built (a_part env) (λ a. a) env builtin.Precondition p l).holds (value (x.Builtin p builtin.Precondition (b ∷ [])))) (sym is)
      (b, (b, plain_to r k.0, (tt, k.1, refl)), (units ms, messages_to ms m, refl))
  meaning_to knows (a_fatal {as'} m) h = (units (given as'), messages_to (given as') m, refl)

  -- ---- chains

  operands_to : {t v : RType} {os : List (InfixOperator × Expr)} {bs : List (InfixOperator × RExpr)} (p : Place) → ResolvesOperands env t os bs v → TypedOperands env.declared env.scope t bs v → (rule.operands (a_part env) (λ a. a) env t os p).holds (bs, v)
  operands_to p operands_end h = refl
  operands_to p (operands_more {u} {v} {z} {b} {bs} is r op rest) (one_operand {u = u2} {v = v2} op2 h hs) =
      let same : u2 ≡ u = cc (op, op2) in
      (z, is, (b, plain_to r h, (u, op, ((bs, v), operands_to p rest (subst (λ u. TypedOperands env.declared env.scope u bs v) same hs), refl))))

  chain_to : {c c' : Chain} {ms : List (Identifier × Option Arguments)} (p : Place) → ResolvesChain env c ms c' → TypedChain c' → TypedChain c × (rule.chain (a_part env) (λ a. a) env c ms p).holds c'
  chain_to p chain_end h = (h, refl)
  chain_to p (of_value {b} {ns} {i} {as'} {f} {m} valued is r rest) h =
      let (t, k) = chain_to p rest h in
      let (ts, q) = behind_to (known.member _ i.text _ f is).0 r t in
      (ts, (tt, checked_to (has_value (last_type (type_of b) ns)) _ (given as') valued, (f, (Ok f, is, sought_to i.place (given as') f), (m, q, k))))
  chain_to p (of_type {t} {i} {as'} {n} {b} is r rest) h =
      let (u, k) = chain_to p rest h in
      (tt, (n, (Ok n, is, sought_to i.place (given as') n), (b, named_to (known.inner t i.text _ n is) r (begun_back b u), k)))

  -- ---- the forms

  pub rule_to : {w : Option RType} {l : Expr-F Expr} {b : Denoted} → ResolvesLevel env w l b → Sound env b → (rule.rule (a_part env) (λ a. a) env w l).holds b
  rule_to ResolvesLevel.integer h = refl
  rule_to ResolvesLevel.minus h = refl
  rule_to ResolvesLevel.boolean h = refl
  rule_to ResolvesLevel.text h = refl
  rule_to (ResolvesLevel.name {i} {as'} {m} is r) h = (m, (Ok m, is, sought_to i.place (given as') m), meaning_to (known.name i.text _ m is) r h)
  rule_to (ResolvesLevel.self {v} is) h = (v, is, refl)
  rule_to (ResolvesLevel.self_type {t} is) h = (t, is, refl)
  rule_to (ResolvesLevel.above {i} {as'} {f} {v} is_v is r) h = inr (v, is_v, (f, (Ok f, is, sought_to i.place as' f), above_to (known.upper i.text _ f v is_v is).0 r h))
  rule_to (ResolvesLevel.implicit {w} {i} {as'} {n} is r) h = inr (w, refl, (n, (Ok n, is, sought_to i.place (given as') n), named_to (known.implicit w i.text _ n is) r h))
  rule_to (ResolvesLevel.parens {b} r v) h = (b, valued_to r h v, refl)
  rule_to (ResolvesLevel.prefix {b} r) h = let k = form.in_prefix h in (b, plain_to r k.0, (k.1.0, k.1.1, refl))
  rule_to (ResolvesLevel.chain {b} {bs} {t} r rs) h = let k = form.in_chain h in (b, plain_to r k.0, ((bs, t), operands_to _ rs k.1, refl))
  rule_to (ResolvesLevel.members {b} {c} r rs) h = let (t, k) = chain_to _ rs (denoted_back c h) in (b, (r, begun_back b t), (c, k, refl))
