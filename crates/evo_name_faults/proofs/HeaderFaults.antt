-- What is answered of single declarations is a fault, and where nothing is answered the others are left.
use Rattle.std.proofs.Common.{◌≡◌, Option, Some, None, MatchOption, sym, subst}
use Rattle.evo_tree.specs.declared.module.SourceFault.{SourceFault}
use Rattle.evo_base.specs.declared.place.Place.{Place}
use Rattle.evo_base.specs.declared.fault_kind.FaultKind.{FaultKind}
use Rattle.evo_base.specs.declared.fault_kind.FaultKind.TheVariants as kind
use Rattle.evo_declarations.specs.Limits.{past_limit}
use Rattle.evo_declarations.proofs.PastLimits.{past_limits}
use Rattle.evo_names.specs.Listed.{World}
use Rattle.evo_names.specs.Faults.{IsFault}
use Rattle.evo_names.specs.Faults as faults
use Rattle.evo_name_faults.specs.Others.{IsFaultAt, OnlyOthers}
use Rattle.evo_name_faults.specs.Left.{IsLeft, OnlyLeft}
use Rattle.evo_name_faults.specs.Left as others
use Rattle.evo_name_faults.specs.Twice.{taken_name}
use Rattle.evo_name_faults.specs.Unknown.{unknown_name}
use Rattle.evo_name_faults.proofs.TakenNames.{NoneTaken, taken_none}
use Rattle.evo_name_faults.proofs.UnknownNames.{NoneUnknown, unknown_none}

left_by : (w : World) → past_limit w.own ≡ None → NoneUnknown w → NoneTaken w → (k : FaultKind) (p : Place) → IsFault w k p → IsLeft w p
left_by w within unknown taken k p (faults.meet m) = others.meet m
left_by w within unknown taken k p (faults.taken {p = q} {n} i d at top named test) = absurd (taken.top i d q n at top named test)
left_by w within unknown taken k p (faults.alias {p = q} {n} i d at is named test) = absurd (taken.aliases i d q n at is named test)
left_by w within unknown taken k p (faults.generic i j d g at at_g test) = absurd (taken.modules i j d g at at_g test)
left_by w within unknown taken k p (faults.generics i j l d g h at at_g at_h less same) = absurd (taken.again i j l d g h at at_g at_h less same)
left_by w within unknown taken k p (faults.conformance is a b before) = others.conformance is a b before
left_by w within unknown taken k p (faults.foreign m is test among c) = others.foreign m is test among c
left_by w within unknown taken k p (faults.«import» i j at test) = absurd (unknown.imports i j at test)
left_by w within unknown taken k p (faults.extended {t} {ts} {ds} i d at is none) = absurd (unknown.extensions t ts ds i d at is none)
left_by w within unknown taken k p (faults.protocol i j d t at at_t none super) = absurd (unknown.protocols i j d t at at_t none super)
left_by w within unknown taken k p (faults.written i j d t at at_t none) = others.written i j d t at at_t none
left_by w within unknown taken k p (faults.declarations d at) = absurd (past_limits.none w d.entry.place within (faults.declarations d at))
left_by w within unknown taken k p (faults.parameters i d h q at has is) = absurd (past_limits.none w q.place within (faults.parameters i d h q at has is))
left_by w within unknown taken k p (faults.generic_parameters i d g at is) = absurd (past_limits.none w g.name.place within (faults.generic_parameters i d g at is))
left_by w within unknown taken k p (faults.payload {c} {ps} i d q at is here) = absurd (past_limits.none w (faults.payload_place q) within (faults.payload i d q at is here))

pub left : (w : World) → past_limit w.own ≡ None → unknown_name w ≡ None → taken_name w ≡ None → OnlyLeft w
left w within unknown taken = λ k p f. left_by w within (unknown_none w unknown) (taken_none w taken) k p f

pub told : (w : World) (o : Option SourceFault) (k : FaultKind) (p : Place) → o ≡ Some (record { kind = k; place = p }) → IsFault w k p → MatchOption o (OnlyLeft w) (IsFaultAt w)
told w o k p is f = subst (λ (x : Option SourceFault). MatchOption x (OnlyLeft w) (IsFaultAt w)) (sym is) f

pub answered : (w : World) (o : Option SourceFault) (k : FaultKind) (p : Place) → o ≡ Some (record { kind = k; place = p }) → IsFault w k p → MatchOption o (OnlyOthers w) (IsFaultAt w)
answered w o k p is f = subst (λ (x : Option SourceFault). MatchOption x (OnlyOthers w) (IsFaultAt w)) (sym is) f
