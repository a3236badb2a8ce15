-- Strings are compared by their canonical decompositions, written in UTF-8.
use Rattle.std.proofs.Common.{◌≡◌, ℕ, List, Bool, true, false, encode_utf8_all, sym, ap, ◌∙◌, refl}
use Rattle.std.specs.Prelude.{chars}
use Rattle.std.specs.Str.{bytes_eq}
use Rattle.std.proofs.lemmas.Str.{encodes_same}
use Rattle.std.specs.Cmp.Lexicographic.{bytes_decides}
use Rattle.unicode_normalization.specs.Forms.{nfd}

agree : (a b : Bool) → (a ≡ true → b ≡ true) → (b ≡ true → a ≡ true) → a ≡ b
agree true b f g = sym (f refl)
agree false true f g = g refl
agree false false f g = refl

pub texts-agree : (e : Bool) (x y a b : List ℕ) → e ≡ bytes_eq x y → x ≡ encode_utf8_all (nfd (chars a)) → y ≡ encode_utf8_all (nfd (chars b)) → e ≡ bytes_eq (nfd (chars a)) (nfd (chars b))
texts-agree e x y a b h p q =
    let s = nfd (chars a) in
    let t = nfd (chars b) in
    h ∙ agree (bytes_eq x y) (bytes_eq s t) (λ u. (bytes_decides s t).1 (encodes_same s t (sym p ∙ ((bytes_decides x y).0 u ∙ q)))) (λ u. (bytes_decides x y).1 (p ∙ (ap encode_utf8_all ((bytes_decides s t).0 u) ∙ sym q)))
