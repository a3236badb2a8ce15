-- Which tokens each test takes.
use Rattle.std.proofs.Common.{◌≡◌, ℕ, zero, suc, ◌^◌, ◌-◌, Bool, true, false, List, [], ◌∷◌, Option, Some, None, refl, sym, ◌∙◌, ap, subst, arith, ◌⊎◌, inl, inr}
use Rattle.std.specs.Prelude.{◌||◌, ◌&&◌, ◌==◌, codes, nat_le, if◌then◌else◌}
use Rattle.std.specs.Str.{bytes_eq, is_utf8}
use Rattle.std.proofs.lemmas.Slice.Eq.{bytes_eq-Decides}
use Rattle.std.proofs.lemmas.Bool.Decides.{Decides-eqb}
use Rattle.evo_base.specs.declared.place.Place.{Place}
use Rattle.std.specs.Str.{IsAscii}
use Rattle.std.proofs.lemmas.Str.{IsUtf8-from_ascii, is_utf8-from_IsUtf8}
use Rattle.evo_tree.specs.declared.declaration.Availability.{Availability}
use Rattle.evo_tree.specs.declared.declaration.Availability.TheVariants as availability
use Rattle.evo_tree.specs.declared.declaration.NominalKind.{NominalKind}
use Rattle.evo_tree.specs.declared.declaration.NominalKind.TheVariants as nominal
use Rattle.evo_lex.specs.Front.{when, integer_value}
use Rattle.evo_tree.specs.declared.name.Identifier.{Identifier}
use Rattle.evo_tree.specs.declared.terminal.Terminal.{Terminal}
use Rattle.evo_tree.specs.declared.terminal.Terminal.TheVariants as t
use Rattle.evo_tree.specs.declared.terminal.Role.TheVariants as role
use Rattle.evo_tree.specs.Terminals.{number_of}
use Rattle.evo_tree.specs.Pieces.{Piece, is_terminal, mark, identifier, word, integer, has_role, is_identifier}
use Rattle.evo_tree.specs.Types.{type_head, plain_name}
use Rattle.evo_tree.specs.declared.declaration.AttrKind.{AttrKind}
use Rattle.evo_tree.specs.declared.declaration.Attr.{Attr}
use Rattle.evo_tree.specs.declared.declaration.ModifierKind.{ModifierKind}
use Rattle.evo_tree.specs.declared.declaration.Modifier.{Modifier}
use Rattle.evo_tree.specs.Declarations.{is_get, infix_mark, standing, nominal_word, attribute_word, attribute_of, unless_attribute, modifier_word, modifier_of, unless_modifier}
use Rattle.evo_parse_expr.proofs.Among.{among, among_alone, same_number}
use Rattle.evo_parse_expr.proofs.Tests.{when_some, and_both, both_and, mark_is}
use Rattle.evo_parse_header.proofs.Parses.{Test}

unfoldable pub a_piece : Terminal → List ℕ → Piece
a_piece k w = record { terminal = k; role = role.Infix; below = false; place = record { line = 1; col = 1 }; text = w }

-- a test that asks for a terminal and more
module _ {A : Type 0} (k : Terminal) (more : Piece → Bool) (value : Piece → A) where
  takes_number : (u : Piece) (a : A) → when (is_terminal k u && more u) (value u) ≡ Some a → among (number_of k ∷ []) (number_of u.terminal) ≡ true
  takes_number u a e = among_alone (number_of u.terminal) (number_of k) (and_both (is_terminal k u) (more u) (when_some (is_terminal k u && more u) (value u) a e).0).0

  takes_piece : (w : List ℕ) → more (a_piece k w) ≡ true → when (is_terminal k (a_piece k w) && more (a_piece k w)) (value (a_piece k w)) ≡ Some (value (a_piece k w))
  unfolding a_piece
  takes_piece w e = ap (λ b. when (b && more (a_piece k w)) (value (a_piece k w))) (same_number (number_of k)) ∙ ap (λ b. when b (value (a_piece k w))) e

pub mark_test : (k : Terminal) → Test (number_of k ∷ []) (mark k)
unfolding mark a_piece
mark_test k = record {
  numbers = λ u a e. among_alone (number_of u.terminal) (number_of k) (when_some (is_terminal k u) u.place a e).0;
  piece = a_piece k [];
  value = (a_piece k []).place;
  taken = ap (λ b. when b (a_piece k []).place) (same_number (number_of k));
}

pub word_test : (w : List ℕ) → Test (number_of t.Identifier ∷ []) (word w)
unfolding word a_piece
word_test w = record {
  numbers = takes_number t.Identifier (λ u. bytes_eq u.text w) (λ u. u.place);
  piece = a_piece t.Identifier w;
  value = (a_piece t.Identifier w).place;
  taken = takes_piece t.Identifier (λ u. bytes_eq u.text w) (λ u. u.place) w ((bytes_eq-Decides w w).1 refl);
}

a_ascii : IsAscii (codes "a")
a_ascii zero = omega arith
a_ascii (suc i) = omega arith

a_utf8 : is_utf8 (codes "a") ≡ true
a_utf8 = is_utf8-from_IsUtf8 (codes "a") (IsUtf8-from_ascii (codes "a") a_ascii)

pub identifier_test : Test (number_of t.Identifier ∷ []) identifier
unfolding identifier a_piece
identifier_test =
    let value = λ (u : Piece). let n : Identifier = record { place = u.place; text = u.text } in n in record {
      numbers = takes_number t.Identifier (λ u. is_utf8 u.text) value;
      piece = a_piece t.Identifier (codes "a");
      value = value (a_piece t.Identifier (codes "a"));
      taken = takes_piece t.Identifier (λ u. is_utf8 u.text) value (codes "a") a_utf8;
    }

pub plain_name_test : Test (number_of t.Identifier ∷ []) plain_name
unfolding plain_name a_piece
plain_name_test = record {
  numbers = takes_number t.Identifier (λ u. is_utf8 u.text) (λ u. u.text);
  piece = a_piece t.Identifier (codes "a");
  value = codes "a";
  taken = takes_piece t.Identifier (λ u. is_utf8 u.text) (λ u. u.text) (codes "a") a_utf8;
}

either : (n : ℕ) (a b : ℕ) → ((n == a) || (n == b)) ≡ true → among (a ∷ b ∷ []) n ≡ true
either n a b e = go (n == a) (n == b) e
  where
    go : (x y : Bool) → (x || y) ≡ true → (x || (y || false)) ≡ true
    go true y e = refl
    go false true e = refl
    go false false e = absurd (cc)

pub type_head_test : Test (number_of t.Identifier ∷ number_of t.SelfType ∷ []) type_head
unfolding type_head a_piece
type_head_test = record {
  numbers = λ u a e. either (number_of u.terminal) (number_of t.Identifier) (number_of t.SelfType) (and_both (is_terminal t.Identifier u || is_terminal t.SelfType u) (is_utf8 u.text) (when_some _ (u.place, u.text) a e).0).0;
  piece = a_piece t.Identifier (codes "a");
  value = ((a_piece t.Identifier (codes "a")).place, codes "a");
  taken = ap (λ b. when b ((a_piece t.Identifier (codes "a")).place, codes "a")) a_utf8;
}

pub infix_test : (k : Terminal) → Test (number_of k ∷ []) (infix_mark k)
unfolding infix_mark a_piece
infix_test k = record {
  numbers = takes_number k (λ u. has_role role.Infix u) (λ u. u.place);
  piece = a_piece k [];
  value = (a_piece k []).place;
  taken = takes_piece k (λ u. has_role role.Infix u) (λ u. u.place) [] refl;
}

pub integer_test : Test (number_of t.Integer ∷ []) (integer (2 ^ 32 - 1))
unfolding integer a_piece
integer_test = record {
  numbers = takes_number t.Integer (λ u. nat_le (integer_value u.text) (2 ^ 32 - 1)) (λ u. (u.place, integer_value u.text));
  piece = a_piece t.Integer (codes "0");
  value = ((a_piece t.Integer (codes "0")).place, integer_value (codes "0"));
  taken = takes_piece t.Integer (λ u. nat_le (integer_value u.text) (2 ^ 32 - 1)) (λ u. (u.place, integer_value u.text)) (codes "0") refl;
}

pub standing_test : Test (number_of t.Identifier ∷ []) standing
unfolding standing a_piece
standing_test = record {
  numbers = λ u a e. among_alone (number_of u.terminal) (number_of t.Identifier) (first_of (is_terminal t.Identifier u) (bytes_eq u.text (codes "deprecated")) (bytes_eq u.text (codes "unavailable")) a e);
  piece = a_piece t.Identifier (codes "deprecated");
  value = availability.Deprecated;
  taken = refl;
}
  where
    first_of : (x y z : Bool) (a : Availability) → (if x && y then Some availability.Deprecated else if x && z then Some availability.Unavailable else None) ≡ Some a → x ≡ true
    first_of true y z a e = refl
    first_of false y z a e = absurd (cc)

pub nominal_test : Test (number_of t.Struct ∷ number_of t.Enum ∷ number_of t.Class ∷ number_of t.Protocol ∷ []) nominal_word
unfolding nominal_word a_piece
nominal_test = record {
  numbers = λ u a e. one_of (is_terminal t.Struct u) (is_terminal t.Enum u) (is_terminal t.Class u) (is_terminal t.Protocol u) u.place a e;
  piece = a_piece t.Struct [];
  value = ((a_piece t.Struct []).place, nominal.Struct);
  taken = refl;
}
  where
    one_of : (x y z w : Bool) (p : Place) (a : Place × NominalKind) →
        (if x then Some (p, nominal.Struct) else if y then Some (p, nominal.Enum) else if z then Some (p, nominal.Class) else if w then Some (p, nominal.Protocol) else None) ≡ Some a →
        (x || (y || (z || (w || false)))) ≡ true
    one_of true y z w p a e = refl
    one_of false true z w p a e = refl
    one_of false false true w p a e = refl
    one_of false false false true p a e = refl
    one_of false false false false p a e = absurd (cc)

-- ---- the words of attributes and modifiers

pub number_among : (k : Terminal) (u : Piece) → is_terminal k u ≡ true → among (number_of k ∷ []) (number_of u.terminal) ≡ true
number_among k u is = among_alone (number_of u.terminal) (number_of k) is

pub is_marked : (k : Terminal) (u : Piece) → is_terminal k u ≡ true → mark k u ≡ Some u.place
unfolding mark
is_marked k u is = ap (λ b. when b u.place) is

pub not_marked : (k : Terminal) (u : Piece) → is_terminal k u ≡ false → mark k u ≡ None
unfolding mark
not_marked k u isnt = ap (λ b. when b u.place) isnt

pub attribute_numbers : (attrs : List Attr) (u : Piece) (kind : AttrKind) → attribute_word attrs u ≡ Some kind → among (number_of t.Identifier ∷ []) (number_of u.terminal) ≡ true
unfolding attribute_word
attribute_numbers attrs u kind e = among_alone (number_of u.terminal) (number_of t.Identifier) (go (is_terminal t.Identifier u) (unless_attribute attrs (attribute_of u.text)) e)
  where
    go : (b : Bool) (o : Option AttrKind) → (if b then o else None) ≡ Some kind → b ≡ true
    go true o e = refl
    go false o e = absurd (cc)

-- `available` is the word of no other attribute
pub attribute_clash : (attrs : List Attr) (u : Piece) (kind : AttrKind) (p : Place) → attribute_word attrs u ≡ Some kind → word (codes "available") u ≡ Some p → ⊥
unfolding attribute_word word
attribute_clash attrs u kind p e h =
    let same : u.text ≡ codes "available" = (bytes_eq-Decides u.text (codes "available")).0 (and_both (is_terminal t.Identifier u) (bytes_eq u.text (codes "available")) (when_some _ u.place p h).0).1 in
    go (is_terminal t.Identifier u) (subst (λ w. (if is_terminal t.Identifier u then unless_attribute attrs (attribute_of w) else None) ≡ Some kind) same e)
  where
    go : (b : Bool) → ◌≡◌ {A = Option AttrKind} (if b then None else None) (Some kind) → ⊥
    go true e = cc
    go false e = cc

modifier_numbers_of : (k : Terminal) (kind : ModifierKind) → modifier_of k ≡ Some kind → among (number_of t.Open ∷ number_of t.Public ∷ number_of t.Internal ∷ number_of t.Private ∷ number_of t.Final ∷ number_of t.Static ∷ number_of t.Mutating ∷ number_of t.Override ∷ []) (number_of k) ≡ true
modifier_numbers_of t.Open kind e = refl
modifier_numbers_of t.Public kind e = refl
modifier_numbers_of t.Internal kind e = refl
modifier_numbers_of t.Private kind e = refl
modifier_numbers_of t.Final kind e = refl
modifier_numbers_of t.Static kind e = refl
modifier_numbers_of t.Override kind e = refl
modifier_numbers_of t.Mutating kind e = refl
modifier_numbers_of k kind e = absurd (cc)

pub modifier_numbers : (ms : List Modifier) (u : Piece) (m : Modifier) → modifier_word ms u ≡ Some m → among (number_of t.Open ∷ number_of t.Public ∷ number_of t.Internal ∷ number_of t.Private ∷ number_of t.Final ∷ number_of t.Static ∷ number_of t.Mutating ∷ number_of t.Override ∷ []) (number_of u.terminal) ≡ true
unfolding modifier_word
modifier_numbers ms u m e = go (modifier_of u.terminal) refl e
  where
    go : (o : Option ModifierKind) → modifier_of u.terminal ≡ o → unless_modifier ms u.place o ≡ Some m → among (number_of t.Open ∷ number_of t.Public ∷ number_of t.Internal ∷ number_of t.Private ∷ number_of t.Final ∷ number_of t.Static ∷ number_of t.Mutating ∷ number_of t.Override ∷ []) (number_of u.terminal) ≡ true
    go (Some kind) is e = modifier_numbers_of u.terminal kind is
    go None is e = absurd (cc)

-- ---- the first name of a type, or `Self`

abbrev pub Headed : Type 0
Headed = Place × List ℕ

-- takes `Self`, with its place and its text
unfoldable pub self_head : Piece → Option Headed
self_head u = when (is_terminal t.SelfType u && is_utf8 u.text) (u.place, u.text)

pub self_head_test : Test (number_of t.SelfType ∷ []) self_head
unfolding self_head a_piece
self_head_test = record {
  numbers = takes_number t.SelfType (λ u. is_utf8 u.text) (λ u. (u.place, u.text));
  piece = a_piece t.SelfType (codes "a");
  value = ((a_piece t.SelfType (codes "a")).place, codes "a");
  taken = takes_piece t.SelfType (λ u. is_utf8 u.text) (λ u. (u.place, u.text)) (codes "a") a_utf8;
}

abbrev pub head_of : Identifier → Headed
head_of n = (n.place, n.text)

-- the head of a type is an identifier or `Self`
pub head_cases : (u : Piece) (h : Headed) → type_head u ≡ Some h → ((n : Identifier) × (identifier u ≡ Some n) × (h ≡ head_of n)) ⊎ (self_head u ≡ Some h)
unfolding type_head identifier self_head
head_cases u h e = go (is_terminal t.Identifier u) (is_terminal t.SelfType u) (is_utf8 u.text) e
  where
    go : (x y z : Bool) → when ((x || y) && z) (u.place, u.text) ≡ Some h →
        ((n : Identifier) × (when (x && z) (record { place = u.place; text = u.text }) ≡ Some n) × (h ≡ head_of n)) ⊎ (when (y && z) (u.place, u.text) ≡ Some h)
    go true y true e = inl (record { place = u.place; text = u.text }, refl, cc)
    go false true true e = inr e
    go true y false e = absurd (cc)
    go false true false e = absurd (cc)
    go false false z e = absurd (cc)

pub head_named : (u : Piece) (n : Identifier) → identifier u ≡ Some n → type_head u ≡ Some (head_of n)
unfolding type_head identifier
head_named u n e = go (is_terminal t.Identifier u) (is_terminal t.SelfType u) (is_utf8 u.text) e
  where
    go : (x y z : Bool) → when (x && z) (let n : Identifier = record { place = u.place; text = u.text } in n) ≡ Some n → when ((x || y) && z) (u.place, u.text) ≡ Some (head_of n)
    go true y true e = let same : ◌≡◌ {A = Identifier} (record { place = u.place; text = u.text }) n = cc in ap (λ m. Some (head_of m)) same
    go true y false e = absurd (cc)
    go false y true e = absurd (cc)
    go false y false e = absurd (cc)

pub head_self : (u : Piece) (h : Headed) → self_head u ≡ Some h → type_head u ≡ Some h
unfolding type_head self_head
head_self u h e = go (is_terminal t.Identifier u) (is_terminal t.SelfType u) (is_utf8 u.text) e
  where
    go : (x y z : Bool) → when (y && z) (u.place, u.text) ≡ Some h → when ((x || y) && z) (u.place, u.text) ≡ Some h
    go true true z e = e
    go false true z e = e
    go true false z e = absurd (cc)
    go false false z e = absurd (cc)

-- where no identifier stands, the head of a type is `Self`
pub head_else : (u : Piece) → identifier u ≡ None → type_head u ≡ self_head u
unfolding type_head identifier self_head
head_else u e = go (is_terminal t.Identifier u) (is_terminal t.SelfType u) (is_utf8 u.text) e
  where
    go : (x y z : Bool) → when (x && z) (let n : Identifier = record { place = u.place; text = u.text } in n) ≡ None → ◌≡◌ {A = Option Headed} (when ((x || y) && z) (u.place, u.text)) (when (y && z) (u.place, u.text))
    go true y true e = absurd (cc)
    go true true false e = refl
    go true false false e = refl
    go false y z e = refl

get_ascii : IsAscii (codes "get")
get_ascii zero = omega arith
get_ascii (suc zero) = omega arith
get_ascii (suc (suc zero)) = omega arith
get_ascii (suc (suc (suc i))) = omega arith

-- the word `get` is an identifier
pub get_utf8 : (v : Piece) → is_get v ≡ true → is_identifier v ≡ true
get_utf8 v is =
    let word = (and_both (is_terminal t.Identifier v) (bytes_eq v.text (codes "get")) is).1 in
    let same : v.text ≡ codes "get" = (bytes_eq-Decides v.text (codes "get")).0 word in
    both_and (is_terminal t.Identifier v) (is_utf8 v.text) (and_both (is_terminal t.Identifier v) (bytes_eq v.text (codes "get")) is).0
    (subst (λ w. is_utf8 w ≡ true) (sym same) (is_utf8-from_IsUtf8 (codes "get") (IsUtf8-from_ascii (codes "get") get_ascii)))
