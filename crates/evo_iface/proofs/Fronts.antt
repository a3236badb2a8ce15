-- Texts that begin or end with another, names up to a byte, and numbers.
use Rattle.std.proofs.Common.{◌≡◌, ◌≢◌, ℕ, ◌+◌, ◌-◌, ◌<◌, ◌^◌, ◌%◌, Bool, true, false, List, [], ◌∷◌, ◌++◌, take, drop, length, slice_index, refl, sym, ◌∙◌, ap, arith, length-append}
use Rattle.std.specs.Prelude.{◌==◌}
use Rattle.std.specs.Str.{bytes_eq}
use Rattle.std.specs.Fmt.{decimal}
use Rattle.std.proofs.lemmas.Slice.Eq.{bytes_eq-Decides}
use Rattle.std.proofs.lemmas.List.{take-append-drop, take_at, drop_at}
use Rattle.std.proofs.lemmas.Str.{IsUtf8-from_ascii}
use Rattle.std.proofs.lemmas.Fmt.{decimal_by_steps, IsAscii-decimal}
use Rattle.evo_lex.proofs.Bytes.{unequal}
use Rattle.evo_iface.specs.Text.{Lacks, IsPlain}
use Rattle.evo_iface.specs.Fronts.{length_before}

-- a front that was taken off
pub stripped : (text front rest : List ℕ) → bytes_eq (take (length front) text) front ≡ true → rest ≡ drop (length front) text → text ≡ front ++ rest
stripped text front rest is e =
    let front-is = (bytes_eq-Decides (take (length front) text) front).0 is in
    sym (take-append-drop (length front) text) ∙ ap (λ (l : List ℕ). l ++ drop (length front) text) front-is ∙ ap (λ (l : List ℕ). front ++ l) (sym e)

-- a front that is not there
pub not_stripped : (text front rest : List ℕ) → bytes_eq (take (length front) text) front ≡ false → text ≡ front ++ rest → ⊥
not_stripped text front rest differ e = unequal (take (length front) text) front differ (ap (λ (l : List ℕ). take (length front) l) e ∙ take_at front rest (length front) refl)

-- an end that was taken off
pub cut_off : (text front end : List ℕ) → bytes_eq (drop (length text - length end) text) end ≡ true → front ≡ take (length text - length end) text → text ≡ front ++ end
cut_off text front end is e =
    let end-is = (bytes_eq-Decides (drop (length text - length end) text) end).0 is in
    sym (take-append-drop (length text - length end) text) ∙ ap (λ (l : List ℕ). l ++ drop (length text - length end) text) (sym e) ∙ ap (λ (l : List ℕ). front ++ l) end-is

-- an end that is not there
pub not_cut_off : (text front end : List ℕ) → bytes_eq (drop (length text - length end) text) end ≡ false → text ≡ front ++ end → ⊥
not_cut_off text front end differ e =
    let long : length text - length end ≡ length front = let l = ap length e in let k = length-append front end in omega arith in
    unequal (drop (length text - length end) text) end differ (ap (λ (k : ℕ). drop k text) long ∙ ap (λ (l : List ℕ). drop (length front) l) e ∙ drop_at front end (length front) refl)

same_byte : (b : ℕ) → (b == b) ≡ true
same_byte b = grind arith

other_byte : (c b : ℕ) → c ≢ b → (c == b) ≡ false
other_byte c b ne = at (c == b) refl
  where
    at : (v : Bool) → (c == b) ≡ v → (c == b) ≡ false
    at true is = absurd (ne (grind arith))
    at false is = is

-- a name without the byte ends where the byte stands
pub plain_length : (byte : ℕ) (m more : List ℕ) → Lacks byte m → length_before byte (m ++ byte ∷ more) ≡ length m
plain_length byte [] more lacks = rw (same_byte byte) refl
plain_length byte (c ∷ cs) more lacks = rw (other_byte c byte lacks.0) (let r = plain_length byte cs more lacks.1 in omega arith)

-- the two parts of a text at the first byte with which a text begins
module _ (behind text front rest : List ℕ) (n : ℕ) (some : 0 < length behind) (n-is : n ≡ length_before (slice_index behind 0) text) (front-is : front ≡ take n text) (rest-is : rest ≡ drop n text) where
  begins : (b : List ℕ) → 0 < length b → (m more : List ℕ) → Lacks (slice_index b 0) m → length_before (slice_index b 0) (m ++ (b ++ more)) ≡ length m
  begins [] lt m more lacks = absurd (omega arith)
  begins (c ∷ cs) lt m more lacks = plain_length c m (cs ++ more) lacks

  ends : (m more : List ℕ) → Lacks (slice_index behind 0) m → text ≡ m ++ (behind ++ more) → n ≡ length m
  ends m more lacks e = n-is ∙ ap (length_before (slice_index behind 0)) e ∙ begins behind some m more lacks

  pub front_is : (m more : List ℕ) → Lacks (slice_index behind 0) m → text ≡ m ++ (behind ++ more) → m ≡ front
  front_is m more lacks e = sym (front-is ∙ ap (λ (k : ℕ). take k text) (ends m more lacks e) ∙ ap (λ (l : List ℕ). take (length m) l) e ∙ take_at m (behind ++ more) (length m) refl)

  pub rest_is : (m more : List ℕ) → Lacks (slice_index behind 0) m → text ≡ m ++ (behind ++ more) → rest ≡ behind ++ more
  rest_is m more lacks e = rest-is ∙ ap (λ (k : ℕ). drop k text) (ends m more lacks e) ∙ ap (λ (l : List ℕ). drop (length m) l) e ∙ drop_at m (behind ++ more) (length m) refl

  pub whole_is : text ≡ front ++ rest
  whole_is = sym (ap (λ (l : List ℕ). l ++ rest) front-is ∙ ap (λ (l : List ℕ). take n text ++ l) rest-is ∙ take-append-drop n text)

-- texts without a byte
pub lacks-both : (byte : ℕ) (xs ys : List ℕ) → Lacks byte xs → Lacks byte ys → Lacks byte (xs ++ ys)
lacks-both byte [] ys p q = q
lacks-both byte (x ∷ xs) ys p q = (p.0, lacks-both byte xs ys p.1 q)

pub lacks-none : (byte : ℕ) (xs ys : List ℕ) → Lacks byte (xs ++ byte ∷ ys) → ⊥
lacks-none byte [] ys p = p.0 refl
lacks-none byte (x ∷ xs) ys p = lacks-none byte xs ys p.1

-- a decimal text has digits alone
pub decimal_lacks : (byte n : ℕ) → byte < 48 → n < 2 ^ 64 → Lacks byte (decimal n)
decimal_lacks byte n low lt = decimal_by_steps (λ (k : ℕ) (ds : List ℕ). Lacks byte ds) (λ (k : ℕ) small. (omega arith, tt)) (λ (k : ℕ) (ds : List ℕ) large before. lacks-both byte ds ((48 + k % 10) ∷ []) before (omega arith, tt)) n lt

pub plain_decimal : (byte n : ℕ) → byte < 48 → n < 2 ^ 64 → IsPlain byte (decimal n)
plain_decimal byte n low lt = record { utf8 = IsUtf8-from_ascii (decimal n) (IsAscii-decimal n lt); lacks = decimal_lacks byte n low lt }
