-- Numbers and releases at the front of a text.
use Rattle.std.proofs.Common.{rules, ◌≡◌, ℕ, ◌+◌, ◌<◌, ◌^◌, ◌%◌, true, List, [], ◌∷◌, ◌++◌, take, drop, sym, ◌∙◌, ap, subst, arith}
use Rattle.std.specs.Char.{is_ascii_digit}
use Rattle.std.specs.List.{prefix_len}
use Rattle.std.specs.Fmt.{decimal}
use Rattle.std.proofs.lemmas.Fmt.{decimal_by_steps, decimal_injective}
use Rattle.evo_base.specs.declared.place.Release.{Release}
use Rattle.evo_heading.specs.Heading.{IsNumbered, IsReleased}
use Rattle.evo_heading.proofs.Fronts.{Pass, pass-append, front_is, whole_is, rest_stops, cut_once}

digit_passes : (n : ℕ) → n < 10 → is_ascii_digit (48 + n) ≡ true
digit_passes n lt = search rules

-- a decimal text has digits alone
digits_pass : (n : ℕ) → n < 2 ^ 64 → Pass is_ascii_digit (decimal n)
digits_pass n lt = decimal_by_steps (λ (k : ℕ) (ds : List ℕ). Pass is_ascii_digit ds) (λ (k : ℕ) small. (digit_passes k small, tt))
    (λ (k : ℕ) (ds : List ℕ) large before. pass-append is_ascii_digit ds ((48 + k % 10) ∷ []) before (digit_passes (k % 10) (omega arith), tt)) n lt

digits_of : (text : List ℕ) (n : ℕ) (rest : List ℕ) → IsNumbered text n rest → Pass is_ascii_digit (decimal n)
digits_of text n rest is = let small = is.small in digits_pass n (omega arith)

same_number : (m n : ℕ) → m < 2 ^ 32 → n < 2 ^ 32 → decimal m ≡ decimal n → m ≡ n
same_number m n small small' e = decimal_injective m n (omega arith) (omega arith) e

-- a text begins with one number
pub numbered_once : (text : List ℕ) (m n : ℕ) (r s : List ℕ) → IsNumbered text m r → IsNumbered text n s → (m ≡ n) × (r ≡ s)
numbered_once text m n r s of_m of_n =
    let cut = cut_once is_ascii_digit (decimal m) r (decimal n) s (digits_of text m r of_m) of_m.apart (digits_of text n s of_n) of_n.apart (sym of_m.whole ∙ of_n.whole) in
    (same_number m n of_m.small of_n.small cut.0, cut.1)

-- the text is cut behind its first digits
module _ (text front rest : List ℕ) (n : ℕ) (n-is : n ≡ prefix_len is_ascii_digit text) (front-is : front ≡ take n text) (rest-is : rest ≡ drop n text) where
  pub no_number : ((m : ℕ) → m < 2 ^ 64 → front ≡ decimal m → ⊥) → (m : ℕ) (more : List ℕ) → IsNumbered text m more → ⊥
  no_number none m more is = let small = is.small in none m (omega arith) (front_is is_ascii_digit text front rest n n-is front-is rest-is (decimal m) more (digits_of text m more is) is.apart is.whole)

  pub large_number : (k : ℕ) → k < 2 ^ 64 → front ≡ decimal k → (k < 2 ^ 32 → ⊥) → (m : ℕ) (more : List ℕ) → IsNumbered text m more → ⊥
  large_number k fits e large m more is =
      let same = front_is is_ascii_digit text front rest n n-is front-is rest-is (decimal m) more (digits_of text m more is) is.apart is.whole in
      let small = is.small in
      let fits' : m < 2 ^ 64 = omega arith in
      large (subst (λ (j : ℕ). j < 2 ^ 32) (sym (decimal_injective k m fits fits' (sym e ∙ same))) small)

  pub numbered : (k : ℕ) → k < 2 ^ 32 → front ≡ decimal k → IsNumbered text k rest
  numbered k small e = record {
    small = small;
    whole = whole_is is_ascii_digit text front rest n n-is front-is rest-is ∙ ap (λ (l : List ℕ). l ++ rest) e;
    apart = rest_stops is_ascii_digit text front rest n n-is front-is rest-is;
  }

-- ---- releases

-- a release in a text that begins with a number: the rest of it behind that number
behind_major : (text : List ℕ) (m : ℕ) (more : List ℕ) → IsNumbered text m more → (release : Release) (rest : List ℕ) (is : IsReleased text release rest) → (release.major ≡ m) × (more ≡ 46 ∷ is.behind)
behind_major text m more is release rest all =
    let same = numbered_once text release.major m (46 ∷ all.behind) more all.major is in
    (same.0, sym same.1)

-- a text that begins with a number
module _ (text : List ℕ) (m : ℕ) (more : List ℕ) (is : IsNumbered text m more) where
  pub no_dot : ((rest : List ℕ) → more ≡ (46 ∷ []) ++ rest → ⊥) → (release : Release) (rest : List ℕ) → IsReleased text release rest → ⊥
  no_dot none release rest all = none all.behind (behind_major text m more is release rest all).1

  pub no_minor : (behind : List ℕ) → more ≡ (46 ∷ []) ++ behind → ((k : ℕ) (rest : List ℕ) → IsNumbered behind k rest → ⊥) → (release : Release) (rest : List ℕ) → IsReleased text release rest → ⊥
  no_minor behind e none release rest all =
      let f = (behind_major text m more is release rest all).1 in
      let same : all.behind ≡ behind = cc in
      none release.minor rest (subst (λ (l : List ℕ). IsNumbered l release.minor rest) same all.minor)

abbrev release_of : ℕ → ℕ → Release
release_of major minor = record { major = major; minor = minor }

same_release : (major major' minor minor' : ℕ) → major ≡ major' → minor ≡ minor' → release_of major minor ≡ release_of major' minor'
same_release major major' minor minor' e f = cc

-- a text begins with one release
pub released_once : (text : List ℕ) (a b : Release) (r s : List ℕ) → IsReleased text a r → IsReleased text b s → (a ≡ b) × (r ≡ s)
released_once text a b r s of_a of_b =
    let major = behind_major text b.major (46 ∷ of_b.behind) of_b.major a r of_a in
    let behind : of_a.behind ≡ of_b.behind = let e = major.1 in cc in
    let minor = numbered_once of_b.behind a.minor b.minor r s (subst (λ (l : List ℕ). IsNumbered l a.minor r) behind of_a.minor) of_b.minor in
    (same_release a.major b.major a.minor b.minor major.0 minor.0, minor.1)
