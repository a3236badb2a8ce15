-- Declarations of a module that meet, among those that its clients see of an import too; and what is left of the faults of headers.
use Rattle.std.proofs.Common.{◌≡◌, ℕ, zero, suc, ◌+◌, ◌<◌, ◌≤◌, List, [], ◌∷◌, ◌++◌, length, Option, Some, None, slice_get, refl, sym, ap, subst, ◌∙◌, ◌⊎◌, inl, inr, arith, MatchOption, IfOk, Result, Ok, Err}
use Rattle.evo_base.specs.declared.place.Place.{Place}
use Rattle.evo_base.specs.declared.fault_kind.FaultKind.{FaultKind}
use Rattle.evo_base.specs.declared.fault_kind.FaultKind.TheVariants as kind
use Rattle.evo_names.specs.declared.declared_name.DeclaredName.{DeclaredName}
use Rattle.evo_names.specs.Listed.{World}
use Rattle.evo_names.specs.Meets.{MeetAt, IsTwice, NoneTwice}
use Rattle.evo_names.specs.Keys.{declared_names}
use Rattle.evo_names.specs.Faults.{IsFault, seen_names}
use Rattle.evo_names.specs.Faults as faults
use Rattle.evo_name_faults.specs.Left.{IsLeft, OnlyLeft}
use Rattle.evo_name_faults.specs.Left as left
use Rattle.evo_name_faults.specs.Others.{IsOther, OnlyOthers}
use Rattle.evo_name_faults.specs.Others as others
use Rattle.evo_name_faults.specs.Second.{IsSecond, NoneSecond}
use Rattle.evo_name_faults.specs.Second as second
use Rattle.evo_name_faults.proofs.Spread.{below, at_right, split, Behind}

pub second_is : (w : World) (p : Place) → IsSecond w p → IsFault w kind.Twice p
second_is w p (second.conformance tested a b before) = faults.conformance tested a b before
second_is w p (second.foreign m is tested there c) = faults.foreign m is tested there c

-- behind others they meet as well
shifted : (xs ys : List DeclaredName) (p : Place) → IsTwice ys 0 p → IsTwice (xs ++ ys) (length xs) p
shifted xs ys p t =
    let less : t.i < t.j = t.before in
    record {
      i = length xs + t.i;
      j = length xs + t.j;
      from_start = omega arith;
      before = omega arith;
      meet = record { earlier = t.meet.earlier; later = t.meet.later; at_i = at_right xs ys t.i t.meet.earlier t.meet.at_i; at_j = at_right xs ys t.j t.meet.later t.meet.at_j; met = t.meet.met };
      place = t.place;
    }

pub met_is : (w : World) (p : Place) → IsTwice (declared_names w) 0 p → IsFault w kind.Twice p
met_is w p t = faults.meet (shifted (seen_names w) (declared_names w) p t)

module _ (w : World) (none : NoneTwice (declared_names w) 0) where
  abbrev both : List DeclaredName
  both = seen_names w ++ declared_names w

  seen_first : (i j : ℕ) (m : MeetAt both i j) → length (seen_names w) ≤ j → i < j → Behind (seen_names w) (declared_names w) j m.later → (slice_get (seen_names w) i ≡ Some m.earlier) ⊎ Behind (seen_names w) (declared_names w) i m.earlier → IsOther w m.later.place
  seen_first i j m from less b (inl h) = others.meet i j (below (seen_names w) i m.earlier h) from m
  seen_first i j m from less b (inr a) =
      let one : i ≡ length (seen_names w) + a.number = a.sum in
      let two : j ≡ length (seen_names w) + b.number = b.sum in
      absurd (none a.number b.number (omega arith) (omega arith) (record { earlier = m.earlier; later = m.later; at_i = a.there; at_j = b.there; met = m.met }))

  own_later : (i j : ℕ) (m : MeetAt both i j) → length (seen_names w) ≤ j → i < j → (slice_get (seen_names w) j ≡ Some m.later) ⊎ Behind (seen_names w) (declared_names w) j m.later → IsOther w m.later.place
  own_later i j m from less (inl h) = let r : j < length (seen_names w) = below (seen_names w) j m.later h in absurd (omega arith)
  own_later i j m from less (inr b) = seen_first i j m from less b (split (seen_names w) (declared_names w) i m.earlier m.at_i)

  left_is : NoneSecond w → (p : Place) → IsLeft w p → IsOther w p
  left_is no_second p (left.meet t) = subst (IsOther w) (sym t.place) (own_later t.i t.j t.meet t.from_start t.before (split (seen_names w) (declared_names w) t.j t.meet.later t.meet.at_j))
  left_is no_second p (left.conformance tested a b before) = absurd (no_second _ (second.conformance tested a b before))
  left_is no_second p (left.foreign m is tested there c) = absurd (no_second _ (second.foreign m is tested there c))
  left_is no_second p (left.written i j d t at at_t means) = others.written i j d t at at_t means

pub others_left : (w : World) → OnlyLeft w → NoneSecond w → NoneTwice (declared_names w) 0 → OnlyOthers w
others_left w only no_second none k p f = left_is w none no_second p (only k p f)

pub of_names : {E : Type 0} (names ns : List DeclaredName) (r : Result (Option Place) E) → names ≡ ns → IfOk r (λ o. MatchOption o (NoneTwice names 0) (λ p. IsTwice names 0 p)) → IfOk r (λ o. MatchOption o (NoneTwice ns 0) (λ p. IsTwice ns 0 p))
of_names names ns r is m = subst (λ x. IfOk r (λ o. MatchOption o (NoneTwice x 0) (λ p. IsTwice x 0 p))) is m

-- ---- what an answer says

pub second_told : (w : World) (o : Option Place) (p : Place) → o ≡ Some p → MatchOption o (NoneSecond w) (IsSecond w) → IsSecond w p
second_told w o p is m = subst (λ (x : Option Place). MatchOption x (NoneSecond w) (IsSecond w)) is m

pub none_told : (w : World) (o : Option Place) → o ≡ None → MatchOption o (NoneSecond w) (IsSecond w) → NoneSecond w
none_told w o is m = subst (λ (x : Option Place). MatchOption x (NoneSecond w) (IsSecond w)) is m

pub met_told : (ns : List DeclaredName) (o : Option Place) (p : Place) → o ≡ Some p → MatchOption o (NoneTwice ns 0) (λ q. IsTwice ns 0 q) → IsTwice ns 0 p
met_told ns o p is m = subst (λ (x : Option Place). MatchOption x (NoneTwice ns 0) (λ q. IsTwice ns 0 q)) is m

pub unmet_told : (ns : List DeclaredName) (o : Option Place) → o ≡ None → MatchOption o (NoneTwice ns 0) (λ q. IsTwice ns 0 q) → NoneTwice ns 0
unmet_told ns o is m = subst (λ (x : Option Place). MatchOption x (NoneTwice ns 0) (λ q. IsTwice ns 0 q)) is m
