-- What stands before a declaration: things of kinds, each with a blank behind it, are written in any order in which they may stand.
use Rattle.std.proofs.Common.{◌≡◌, ℕ, List, [], ◌∷◌, ◌++◌, map, Bool, true, false, codes, refl, sym, ◌∙◌, ap, ap₂, subst, cond, append_assoc, append-nil}
use Rattle.std.specs.Prelude.{◌==◌}
use Rattle.std.specs.List.{flat_map, filter, list_any}
use Rattle.std.proofs.lemmas.List.{map-append}
use Rattle.evo_combinators.specs.Guard.{Run}
use Rattle.evo_tree.specs.Pieces.{Piece}
use Rattle.evo_tree.specs.Expressions.{Rule}
use Rattle.evo_round_trip.proofs.Written.{Written, Sound, joined}
use Rattle.evo_round_trip.proofs.Matching.{FromText}
use Rattle.evo_round_trip.proofs.Printed.{Text, any_begins, begins, begins_within, begins_append, is_apart, is_flush, is_free, Matched, matched_parts, genuine_left, genuine_right, joined_append, sound_append}
use Rattle.evo_round_trip.proofs.Prints.{Writes, print_behind}
use Rattle.evo_round_trip.proofs.Heads.{is_calm, calm_flush, apart_free}
use Rattle.evo_round_trip.proofs.PrintedTypes.{SameBy}
use Rattle.evo_round_trip.proofs.OrderedKinds.{AtMostOne, MayFollow, one_more, one_may, any_map}

-- ---- behind a blank

-- the same tokens behind a blank
abbrev pub Behind : List Written → Type 0
Behind ys = (ws : List Written) × (joined ws ≡ codes " " ++ joined ys) × Sound ws × (begins false is_apart ws ≡ true) × ((ms : List Piece) → Matched false ms ws → Matched false ms ys)

pub behind : (ys : List Written) → begins false is_calm ys ≡ true → Sound ys → Behind ys
behind ys begun sound =
    let (ws, written, good, apart, make) = (print_behind (codes " ") refl refl as_rule).holds [] tt tt refl tt in
    (ws, written, good, apart, λ ms fits. let (b, fits', same) = make tt tt ms fits in fits')
  where
    as_rule : Writes false false is_flush (λ (b : Unit {0}). joined ys) (λ a b. Unit {0}) (λ us b. Unit {0}) (λ ms b. Matched false ms ys)
    as_rule = record { holds = λ us b gen fst s. (ys, refl, sound, begins_within false false is_calm is_flush ys (λ t. t) calm_flush begun, λ a near ms fits. (tt, fits, tt)) }

-- ---- things of kinds

abbrev pub next : {X : Type 0} → List X → X → List X
next s x = s ++ x ∷ []

-- what is owed of things of kinds: which rule spells them behind others, and what is written for them
pub record Fronted {X : Type 0} (bare : X → X) (num : X → ℕ) (single : ℕ → Bool) (S : List X → Rule X) (text : X → Text) : Type 0 where
  -- the text without the blank behind it
  pub out : X → Text
  pub text_is : (x : X) → text x ≡ out x ++ codes " "
  pub num_bare : (x : X) → num (bare x) ≡ num x
  pub law : Writes false false is_calm out (SameBy bare) (S []) (S [])
  pub alone : (s : List X) (us : List Piece) (x : X) → S s us x → S [] us x
  pub may : (s : List X) (us : List Piece) (x : X) → S s us x → MayFollow num single x s
  pub into : (s : List X) (us : List Piece) (x : X) → MayFollow num single x s → S [] us x → S s us x

-- some genuine pieces spell it
abbrev pub Fine : {X : Type 0} → (List X → Rule X) → X → Type 0
Fine S x = (us : List Piece) × FromText us × S [] us x

abbrev pub AllFine : {X : Type 0} → (List X → Rule X) → List X → Type 0
AllFine S [] = Unit {0}
AllFine S (x ∷ xs) = Fine S x × AllFine S xs

pub fine_append : {X : Type 0} (S : List X → Rule X) (xs ys : List X) → AllFine S xs → AllFine S ys → AllFine S (xs ++ ys)
fine_append S [] ys f g = g
fine_append S (x ∷ xs) ys f g = (f.0, fine_append S xs ys f.1 g)

pub fine_filter : {X : Type 0} (S : List X → Rule X) (p : X → Bool) (xs : List X) → AllFine S xs → AllFine S (filter p xs)
fine_filter S p [] f = tt
fine_filter S p (x ∷ xs) f = go (p x) f.0 (fine_filter S p xs f.1)
  where
    go : (b : Bool) → Fine S x → AllFine S (filter p xs) → AllFine S (cond b (x ∷ filter p xs) (filter p xs))
    go true h k = (h, k)
    go false h k = k

module _ {X : Type 0} {bare : X → X} {num : X → ℕ} {single : ℕ → Bool} {S : List X → Rule X} {text : X → Text} (laws : Fronted bare num single S text) where
  -- what is spelled has at most one of each kind
  pub spelled_fine : (s : List X) (us : List Piece) (xs : List X) → FromText us → Run S next s us xs → AtMostOne num single s → AtMostOne num single (s ++ xs) × AllFine S xs
  spelled_fine s us [] gen run one = (subst (AtMostOne num single) (sym (append-nil s)) one, tt)
  spelled_fine s us (x ∷ xs) gen (vs, ws, at, here, more) one =
      let gen' : FromText (vs ++ ws) = subst FromText at gen in
      let rest = spelled_fine (s ++ x ∷ []) ws xs (genuine_right vs ws gen') more (one_more num single s x one (laws.may s vs x here)) in
      (subst (AtMostOne num single) (append_assoc s (x ∷ []) xs) rest.0, ((vs, genuine_left vs ws gen', laws.alone s vs x here), rest.1))

  -- things with the same kinds may stand behind the same
  may_same : (x y : X) (s s' : List X) → bare x ≡ bare y → map bare s ≡ map bare s' → MayFollow num single x s → MayFollow num single y s'
  may_same x y s s' same sames may h =
      let number : num x ≡ num y = sym (laws.num_bare x) ∙ ap num same ∙ laws.num_bare y in
      let test : (n : ℕ) (zs : List X) → list_any (λ z. num z == n) zs ≡ list_any (λ z. num z == n) (map bare zs) = λ n zs. any_map bare (λ z. num z == n) (λ z. num z == n) (λ z. ap (λ k. k == n) (laws.num_bare z)) zs in
      test (num y) s' ∙ ap (list_any (λ z. num z == num y)) (sym sames) ∙ sym (test (num y) s) ∙ ap (λ n. list_any (λ z. num z == n) s) (sym number) ∙ may (ap single number ∙ h)

  -- what is read again: these, and then what matches `ys`
  abbrev pub Again : List X → List X → List Written → List Written → Type 0
  Again s xs ys zs = (s' : List X) → map bare s ≡ map bare s' → (ms : List Piece) → Matched false ms zs →
      (ns : List Piece) × (ps : List Piece) × (xs' : List X) × (ms ≡ ns ++ ps) × Run S next s' ns xs' × (map bare xs ≡ map bare xs') × Matched false ps ys

  -- these are written before `ys`, and spelled again behind what is like `s`
  abbrev pub Front : List X → List X → List Written → Type 0
  Front s xs ys = (zs : List Written) × (joined zs ≡ flat_map text xs ++ joined ys) × Sound zs × (begins false is_calm zs ≡ true) × Again s xs ys zs

  again_more : (s : List X) (x : X) (xs : List X) (ys ws vs zs : List Written) → MayFollow num single x s → ((ms : List Piece) → Matched false ms ws → (x' : X) × S [] ms x' × SameBy bare x x') →
      ((ms : List Piece) → Matched false ms vs → Matched false ms zs) → Again (s ++ x ∷ []) xs ys zs → Again s (x ∷ xs) ys (ws ++ vs)
  again_more s x xs ys ws vs zs may make off more s' same ms fits =
      let (ns, ps, cut, left, right) = matched_parts false ms ws vs fits in
      let (x', here, alike) = make ns left in
      let sames : map bare (s ++ x ∷ []) ≡ map bare (s' ++ x' ∷ []) = map-append bare s (x ∷ []) ∙ ap₂ (λ a b. a ++ b ∷ []) same alike ∙ sym (map-append bare s' (x' ∷ [])) in
      let (ns', ps', xs', cut', run, alikes, rest) = more (s' ++ x' ∷ []) sames ps (off ps right) in
      let at : ms ≡ (ns ++ ns') ++ ps' = cut ∙ ap (λ z. ns ++ z) cut' ∙ sym (append_assoc ns ns' ps') in
      (ns ++ ns', ps', x' ∷ xs', at, (ns, ns', refl, laws.into s' ns x' (may_same x x' s s' alike same may) here, run), ap₂ (λ a b. a ∷ b) alike alikes, rest)

  front_leaf : (w a b c : Text) → w ≡ a ++ codes " " → a ++ (codes " " ++ (b ++ c)) ≡ (w ++ b) ++ c
  front_leaf w a b c is = leaf ∙ ap (λ z. (z ++ b) ++ c) (sym is)
    where
      leaf : a ++ (codes " " ++ (b ++ c)) ≡ ((a ++ codes " ") ++ b) ++ c
      leaf = simp append_assoc

  front_more : (s : List X) (x : X) (xs : List X) (ys ws : List Written) → MayFollow num single x s → joined ws ≡ laws.out x → Sound ws → begins false is_calm ws ≡ true →
      ((ms : List Piece) → Matched false ms ws → (x' : X) × S [] ms x' × SameBy bare x x') → (zs : List Written) → joined zs ≡ flat_map text xs ++ joined ys → Again (s ++ x ∷ []) xs ys zs → Behind zs → Front s (x ∷ xs) ys
  front_more s x xs ys ws may written good first make zs written' more (vs, behind, good', apart, off) = (
    ws ++ vs,
    joined_append ws vs ∙ ap₂ (λ a b. a ++ b) written (behind ∙ ap (λ z. codes " " ++ z) written') ∙ front_leaf (text x) (laws.out x) (flat_map text xs) (joined ys) (laws.text_is x),
    sound_append ws vs good good' (begins_within false true is_apart is_free vs (λ t. refl) apart_free apart),
    begins_append false is_calm ws vs first,
    again_more s x xs ys ws vs zs may make off more,
  )

  -- what may stand so is written so
  pub front : (s xs : List X) → AllFine S xs → AtMostOne num single (s ++ xs) → (ys : List Written) → begins false is_calm ys ≡ true → Sound ys → Front s xs ys
  front s [] fine one ys begun sound = (ys, refl, sound, begun, λ s' same ms fits. ([], ms, [], refl, refl, refl, fits))
  front s (x ∷ xs) ((us, gen, here), fine) one ys begun sound =
      let (ws, written, good, first, make) = laws.law.holds us x gen (any_begins us) here in
      let (zs, written', good', first', more) = front (s ++ x ∷ []) xs fine (subst (AtMostOne num single) (sym (append_assoc s (x ∷ []) xs)) one) ys begun sound in
      front_more s x xs ys ws (one_may num single s x xs one) written good first (λ ms fits. make tt tt ms fits) zs written' more (behind zs first' good')
