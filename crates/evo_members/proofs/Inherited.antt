-- Protocols with what they inherit, one after the other.
use Rattle.std.proofs.Common.{◌≡◌, ℕ, zero, suc, ◌+◌, List, [], ◌∷◌, ◌++◌, length, flat_map, reverse, Bool, true, false, refl, sym, ap, subst, ◌∙◌, arith, if◌then◌else◌}
use Rattle.std.proofs.lemmas.List.{length-map, reverse-append, reverse-reverse, map-append}
use Rattle.evo_base.specs.declared.key.Key.{Key}
use Rattle.evo_declarations.specs.declared.type_id.TypeId.{TypeId}
use Rattle.evo_declarations.specs.Views.{key_of_type}
use Rattle.evo_members.specs.Views.{keys_of}
use Rattle.evo_members.specs.Texts.{inherited_length}
use Rattle.evo_members.specs.Inheriting.{IsVisited, keys_left}
use Rattle.evo_names.specs.Listed.{World, Declaration, declarations}
use Rattle.evo_names.specs.Heads.{reach, is_among, inherited, inherit_list, closure}

module _ (w : World) where
  pub reach_nil : (m : ℕ) (found : List Key) → reach m w found [] ≡ found
  reach_nil zero found = refl
  reach_nil (suc m) found = refl

  pub visited_none : (found : List Key) → IsVisited w 1 found [] found []
  visited_none found m = let e : 1 + m ≡ suc m = omega arith in ap (λ k. reach k w found []) e ∙ sym (reach_nil m found)

  if_among : (m : ℕ) (found : List Key) (p : Key) (ps : List Key) (b : Bool) → is_among p found ≡ b → reach (suc m) w found (p ∷ ps) ≡ (if b then reach m w found ps else reach m w (found ++ p ∷ []) (inherited w p ++ ps))
  if_among m found p ps b e = ap (λ (t : Bool). if t then reach m w found ps else reach m w (found ++ p ∷ []) (inherited w p ++ ps)) e

  pub visited_again : (found : List Key) (p : Key) (ps : List Key) → is_among p found ≡ true → IsVisited w 1 found (p ∷ ps) found ps
  visited_again found p ps e m = let one : 1 + m ≡ suc m = omega arith in ap (λ k. reach k w found (p ∷ ps)) one ∙ if_among m found p ps true e

  pub visited_new : (found : List Key) (p : Key) (ps : List Key) → is_among p found ≡ false → IsVisited w 1 found (p ∷ ps) (found ++ p ∷ []) (inherited w p ++ ps)
  visited_new found p ps e m = let one : 1 + m ≡ suc m = omega arith in ap (λ k. reach k w found (p ∷ ps)) one ∙ if_among m found p ps false e

  pub visited_no : (found left : List Key) → IsVisited w 0 found left found left
  visited_no found left m = let none : 0 + m ≡ m = omega arith in ap (λ k. reach k w found left) none

  pub visited_more : (n : ℕ) (a b c d e f : List Key) → IsVisited w n a b c d → IsVisited w 1 c d e f → IsVisited w (n + 1) a b e f
  visited_more n a b c d e f one two m =
      let same : n + 1 + m ≡ n + (1 + m) = omega arith in
      ap (λ k. reach k w a b) same ∙ one (1 + m) ∙ two m

  pub all_visited : (a b : ℕ) (ps found left all rest : List Key) → IsVisited w a [] ps found left → IsVisited w b found left all rest → reach (a + b) w [] ps ≡ all
  all_visited a b ps found left all rest one two =
      let none : b + 0 ≡ b = omega arith in
      one b ∙ ap (λ k. reach k w found left) (sym none) ∙ two 0

  pub closure_is : (ps found left all rest : List Key) (a b : ℕ) → a ≡ length ps → b ≡ length (flat_map (λ (d : Declaration). inherit_list d.entry.kind) (declarations w)) → IsVisited w a [] ps found left → IsVisited w b found left all rest → all ≡ closure w ps
  unfolding closure
  closure_is ps found left all rest a b first second one two =
      sym (subst (λ (k : ℕ). reach (k + length (flat_map (λ (d : Declaration). inherit_list d.entry.kind) (declarations w))) w [] ps ≡ all) first (subst (λ (k : ℕ). reach (a + k) w [] ps ≡ all) second (all_visited a b ps found left all rest one two)))

pub closure_from : (w : World) (ts : List TypeId) (none left found more all rest : List Key) (b : ℕ) → none ≡ [] → left ≡ keys_of ts → b ≡ inherited_length w → IsVisited w (length ts) none left found more → IsVisited w b found more all rest → all ≡ closure w (keys_of ts)
closure_from w ts none left found more all rest b is from count one two =
    let first : IsVisited w (length ts) [] (keys_of ts) found more = subst (λ (xs : List Key). IsVisited w (length ts) xs (keys_of ts) found more) is (subst (λ (xs : List Key). IsVisited w (length ts) none xs found more) from one) in
    closure_is w (keys_of ts) found more all rest (length ts) b (sym (length-map ts key_of_type)) count first two

-- ---- those that are left

pub left_more : (ts : List TypeId) (t : TypeId) → keys_left (ts ++ t ∷ []) ≡ key_of_type t ∷ keys_left ts
left_more ts t = ap keys_of (reverse-append ts (t ∷ []))

pub left_reversed : (ts us : List TypeId) → keys_left (ts ++ reverse us) ≡ keys_of us ++ keys_left ts
left_reversed ts us = ap keys_of (reverse-append ts (reverse us) ∙ ap (λ l. l ++ reverse ts) (reverse-reverse us)) ∙ map-append key_of_type us (reverse ts)
