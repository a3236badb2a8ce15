-- A typed tree stays typed where the declarations grow.
use Rattle.std.proofs.Common.{List}
use Rattle.evo_base.specs.declared.key.Key.{Key}
use Rattle.evo_tree.specs.declared.expression.InfixOperator.{InfixOperator}
use Rattle.evo_resolved.specs.declared.resolved_type.RType.{RType}
use Rattle.evo_resolved.specs.declared.declaration.Signature.{Signature}
use Rattle.evo_resolved.specs.declared.path.ConfPath.{ConfPath}
use Rattle.evo_resolved.specs.declared.expression.RUse.{RUse}
use Rattle.evo_resolved.specs.declared.expression.RExpr.{RExpr, RExpr-F}
use Rattle.evo_resolved.specs.declared.expression.RMember.{RMember, RMember-F}
use Rattle.evo_typing.specs.Shapes.{Shape, Declared, Scope, Owner, nowhere, of_type, of_protocol, Before, nothing, before, super, Below, BelongsTo, Suits}
use Rattle.evo_typing.specs.Typed
use Rattle.evo_typing.specs.Laws.{Keeps}
use Rattle.std.proofs.Common.{inl, inr}

module _ {d e : Declared} (k : Keeps d e) where
  below_on : (c : Key) (v : RType) → Below d c v → Below e c v
  below_on c v (inl h) = inl h
  below_on c v (inr (l, is, a)) = inr (l, is, k.above c l a)

  belongs_on : (o : Owner) (ts : List RType) (v : RType) → BelongsTo d o ts v → BelongsTo e o ts v
  belongs_on nowhere ts v h = h
  belongs_on (of_type c) ts v h = below_on c v h
  belongs_on (of_protocol p) ts v h = h

  suits_on : (o : Owner) (ts : List RType) (b : Before) → Suits d o ts b → Suits e o ts b
  suits_on o ts nothing h = tt
  suits_on o ts (before v) h = belongs_on o ts v h
  suits_on o ts (super v) (c, l, is, is_v, a) = (c, l, is, is_v, k.above c l a)

  lead_on : {s : Signature} {ts : List RType} {rs : List (RType × Key)} {qs : List ConfPath} → Typed.AllLead d s ts rs qs → Typed.AllLead e s ts rs qs
  lead_on Typed.none_required = Typed.none_required
  lead_on (Typed.one_required a l h) = Typed.one_required (k.stands _ _ _ _ a) (k.leads _ _ _ l) (lead_on h)

  equal_on : {s : Signature} {ts : List RType} {rs : List (RType × RType)} → Typed.AllEqual d s ts rs → Typed.AllEqual e s ts rs
  equal_on Typed.none_equal = Typed.none_equal
  equal_on (Typed.one_equal a b h) = Typed.one_equal (k.stands _ _ _ _ a) (k.stands _ _ _ _ b) (equal_on h)

  fits_on : {b : Before} {u : RUse} {s : Shape} → Typed.Fits d b u s → Typed.Fits e b u s
  fits_on {b} {u} {s} h = record { is = k.shape u.key s h.is; reach = h.reach; suits = suits_on s.owner u.types b h.suits; conforms = lead_on h.conforms; equal = equal_on h.equal; result = k.stands _ _ _ _ h.result }

  can_set_on : (u : RUse) → Typed.CanSet d u → Typed.CanSet e u
  can_set_on u (s, h, is) = (s, k.shape u.key s h, is)

module _ {d e : Declared} (k : Keeps d e) {c : Scope} where
  mutual
    pub typed_on : {b : RExpr} → Typed.Typed d c b → Typed.Typed e c b
    typed_on (Typed.typed h) = Typed.typed (level_on h)

    level_on : {l : RExpr-F RExpr RMember} → Typed.TypedLevel d c l → Typed.TypedLevel e c l
    level_on Typed.TypedLevel.written = Typed.TypedLevel.written
    level_on (Typed.TypedLevel.local h) = Typed.TypedLevel.local h
    level_on (Typed.TypedLevel.self h) = Typed.TypedLevel.self h
    level_on (Typed.TypedLevel.upcast h is a s) = Typed.TypedLevel.upcast (typed_on h) is (k.above _ _ a) s
    level_on (Typed.TypedLevel.prefix h is) = Typed.TypedLevel.prefix (typed_on h) is
    level_on (Typed.TypedLevel.chain h os) = Typed.TypedLevel.chain (typed_on h) (operands_on os)
    level_on (Typed.TypedLevel.members h ns) = Typed.TypedLevel.members (typed_on h) (members_on ns)
    level_on (Typed.TypedLevel.mutate v ss h) = Typed.TypedLevel.mutate v (steps_on ss) (use_on h)
    level_on (Typed.TypedLevel.case h) = Typed.TypedLevel.case (use_on h)
    level_on (Typed.TypedLevel.new h) = Typed.TypedLevel.new (use_on h)
    level_on (Typed.TypedLevel.call h) = Typed.TypedLevel.call (use_on h)
    level_on (Typed.TypedLevel.above s h) = Typed.TypedLevel.above s (use_on h)
    level_on (Typed.TypedLevel.print h) = Typed.TypedLevel.print (printed_on h)
    level_on (Typed.TypedLevel.precondition h is) = Typed.TypedLevel.precondition (typed_on h) is
    level_on Typed.TypedLevel.fatal = Typed.TypedLevel.fatal

    operands_on : {t v : RType} {os : List (InfixOperator × RExpr)} → Typed.TypedOperands d c t os v → Typed.TypedOperands e c t os v
    operands_on Typed.no_operand = Typed.no_operand
    operands_on (Typed.one_operand t h hs) = Typed.one_operand (k.operated _ _ _ _ t) (typed_on h) (operands_on hs)

    members_on : {v : RType} {ns : List RMember} → Typed.TypedMembers d c v ns → Typed.TypedMembers e c v ns
    members_on Typed.no_member = Typed.no_member
    members_on (Typed.one_member h hs) = Typed.one_member (member_on h) (members_on hs)

    member_on : {v : RType} {l : RMember-F RExpr RMember} → Typed.TypedMember d c v l → Typed.TypedMember e c v l
    member_on (Typed.of_property h) = Typed.of_property (use_on h)
    member_on (Typed.of_call h) = Typed.of_call (use_on h)
    member_on (Typed.of_mutation ss h) = Typed.of_mutation (steps_on ss) (use_on h)

    steps_on : {v z : RType} {ss : List RUse} → Typed.TypedSteps d c v ss z → Typed.TypedSteps e c v ss z
    steps_on Typed.no_step = Typed.no_step
    steps_on (Typed.one_step {s} h b hs) = Typed.one_step (use_on h) (can_set_on k s b) (steps_on hs)

    use_on : {b : Before} {u : RUse} {bs : List RExpr} → Typed.TypedUse d c b u bs → Typed.TypedUse e c b u bs
    use_on (Typed.used shape fits have) = Typed.used shape (fits_on k fits) (have_on have)

    have_on : {s : Signature} {ts ps : List RType} {bs : List RExpr} → Typed.AllHave d c s ts ps bs → Typed.AllHave e c s ts ps bs
    have_on Typed.none_left = Typed.none_left
    have_on (Typed.one_more a h hs) = Typed.one_more (k.stands _ _ _ _ a) (typed_on h) (have_on hs)

    printed_on : {bs : List RExpr} → Typed.TypedPrinted d c bs → Typed.TypedPrinted e c bs
    printed_on Typed.none_printed = Typed.none_printed
    printed_on (Typed.one_printed p h hs) = Typed.one_printed p (typed_on h) (printed_on hs)
