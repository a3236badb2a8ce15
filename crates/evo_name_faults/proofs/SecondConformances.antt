-- Two names of conformances meet exactly where one of the conformances is there twice.
use Rattle.std.proofs.Common.{◌≡◌, ℕ, zero, suc, ◌+◌, ◌<◌, ◌≤◌, List, [], ◌∷◌, ◌++◌, length, map, filter, flat_map, Option, Some, None, Bool, true, false, ◌&&◌, ◌||◌, not, IsTrue, slice_get, refl, sym, ap, ap₂, subst, ◌∙◌, ◌⊎◌, inl, inr, arith, if◌then◌else◌, MatchOption, IfOk, Result, Ok, Err}
use Rattle.std.specs.List.{list_any}
use Rattle.std.specs.Option.{option_map, option_map_or, option_and_then}
use Rattle.std.specs.Str.{bytes_eq}
use Rattle.evo_base.specs.declared.place.Place.{Place}
use Rattle.evo_base.specs.declared.key.Key.{Key}
use Rattle.evo_tree.specs.declared.name.TypeName.{TypeName}
use Rattle.evo_tree.specs.declared.declaration.DeclKind.TheOpen as de
use Rattle.evo_names.specs.declared.declared_name.DeclaredName.{DeclaredName}
use Rattle.evo_names.specs.Listed.{Text, Kind, Entry, Listing, World, Declaration, alone, list_of, own_declarations, declarations}
use Rattle.evo_names.specs.Meets.{meets, MeetAt, IsTwice, NoneTwice}
use Rattle.evo_names.specs.Seen.{same_type}
use Rattle.evo_names.specs.Heads.{Head, first_that, type_key, declares, extends, declaration_of, inherit_list, protocol_named, protocols_named, conformances, is_among, head_of}
use Rattle.evo_names.specs.Faults.{Before, Conforms, is_type, is_type_key}
use Rattle.evo_name_faults.specs.Conformances.{conformance_name, type_of, name_by, names_by, tested_by, names_in, all_names, any_key, imported_names, own_names}
use Rattle.evo_name_faults.specs.Second.{IsSecond, NoneSecond, conformance, foreign}
use Rattle.evo_name_faults.proofs.Firsts.{is_true, true_is, at_of, entry_of}
use Rattle.evo_name_faults.proofs.Spread.{below, at_left, at_right, split, Behind, start, Spread, spread, gather, order_to, order_from, listed, listed_at}
use Rattle.evo_name_faults.proofs.PlainKeys.{plain_protocol, same_parts, one_key, same_itself}

-- ---- what a declaration is to a type

abbrev within : World → Entry → Declaration
within w e = record { world = w; entry = e }

or_true : (a b : Bool) → a ≡ true → (a || b) ≡ true
or_true true b e = refl
or_true false b e = absurd cc

extended_type : (o : Option Head) (key k : Key) → option_map (λ (h : Head). h.key) o ≡ Some key → same_type key k ≡ true → option_map_or (λ (h : Head). same_type h.key k) o false ≡ true
extended_type None key k is same = absurd cc
extended_type (Some h) key k is same = let one : key ≡ h.key = cc in subst (λ (x : Key). same_type x k ≡ true) one same

no_type : (key k : Key) (b : Bool) → None ≡ Some key → b ≡ true
no_type key k b e = absurd cc

of_type : (w : World) (d : Declaration) (kind : Kind) (key k : Key) → d.world ≡ w → type_of w kind ≡ Some key → same_type key k ≡ true → (declares k d kind || extends k d kind) ≡ true
of_type w d (de.Nominal q i ts ds) key k at is same =
    let one : key ≡ type_key w.own.name i.text = cc in
    let here : same_type (type_key d.world.own.name i.text) k ≡ true = ap (λ (x : World). same_type (type_key x.own.name i.text) k) at ∙ ap (λ (x : Key). same_type x k) (sym one) ∙ same in
    or_true (same_type (type_key d.world.own.name i.text) k) false here
of_type w d (de.Extension t ts ds) key k at is same = ap (λ (x : World). option_map_or (λ (h : Head). same_type h.key k) (head_of x t.names) false) at ∙ extended_type (head_of w t.names) key k is same
of_type w d kind key k at is same = absurd cc

-- the type of what declares or extends
record Typed (w : World) (kind : Kind) (k : Key) : Type 0 where
  key : Key
  is : type_of w kind ≡ Some key
  same : same_type key k ≡ true

or_false : (a : Bool) → (a || false) ≡ true → a ≡ true
or_false true e = refl
or_false false e = absurd cc

typed_by : (w : World) (k : Key) (kind : Kind) (o : Option Head) → type_of w kind ≡ option_map (λ (h : Head). h.key) o → option_map_or (λ (h : Head). same_type h.key k) o false ≡ true → Typed w kind k
typed_by w k kind None is e = absurd cc
typed_by w k kind (Some h) is e = record { key = h.key; is = is; same = e }

typed : (w : World) (d : Declaration) (kind : Kind) (k : Key) → d.world ≡ w → (declares k d kind || extends k d kind) ≡ true → Typed w kind k
typed w d (de.Nominal q i ts ds) k at e = record { key = type_key w.own.name i.text; is = refl; same = ap (λ (x : World). same_type (type_key x.own.name i.text) k) (sym at) ∙ or_false (same_type (type_key d.world.own.name i.text) k) e }
typed w d (de.Extension t ts ds) k at e = typed_by w k (de.Extension t ts ds) (head_of w t.names) refl (ap (λ (x : World). option_map_or (λ (h : Head). same_type h.key k) (head_of x t.names) false) (sym at) ∙ e)
typed w d kind k at e = absurd cc

-- ---- a key of a type

abbrev plain : Key → Key
plain k = type_key k.module k.base

declares_plain : (k : Key) (d : Declaration) (kind : Kind) → declares k d kind ≡ declares (plain k) d kind
declares_plain k d (de.Nominal q i ts ds) = refl
declares_plain k d kind = refl

first_alike : (p q : Declaration → Bool) (ds : List Declaration) → ((d : Declaration) → p d ≡ q d) → first_that p ds ≡ first_that q ds
first_alike p q [] same = refl
first_alike p q (d ∷ ds) same = ap₂ (λ (b : Bool) (o : Option Declaration). if b then Some d else o) (same d) (first_alike p q ds same)

type_key_plain : (w : World) (k : Key) → is_type_key w k ≡ is_type_key w (plain k)
unfolding declaration_of
type_key_plain w k = ap (λ (o : Option Declaration). option_map_or (λ (d : Declaration). is_type d.entry.kind) o true) (first_alike (λ d. declares k d d.entry.kind) (λ d. declares (plain k) d d.entry.kind) (declarations w) (λ d. declares_plain k d d.entry.kind))

same_test : (w : World) (a b : Key) → same_type a b ≡ true → is_type_key w a ≡ is_type_key w b
same_test w a b e = let parts = same_parts a b e in type_key_plain w a ∙ ap (is_type_key w) (ap₂ type_key parts.0 parts.1) ∙ sym (type_key_plain w b)

-- ---- names that meet

four : (a b c d : Bool) → (a && (b && (c && true)) && (if d && true then true else false)) ≡ true → (a ≡ true) × (b ≡ true) × (c ≡ true) × (d ≡ true)
four true true true true e = (refl, refl, refl, refl)
four true true true false e = absurd cc
four true true false d e = absurd cc
four true false c d e = absurd cc
four false b c d e = absurd cc

four_true : (a b c d : Bool) → a ≡ true → b ≡ true → c ≡ true → d ≡ true → (a && (b && (c && true)) && (if d && true then true else false)) ≡ true
four_true a b c d p q r s = rw (p, q, r, s) refl

and_true : (a b : Bool) → a ≡ true → b ≡ true → (a && b) ≡ true
and_true a b p q = rw (p, q) refl

met_types : (k l p q : Key) (x y : Place) → meets (conformance_name k x p) (conformance_name l y q) ≡ true → (same_type k l ≡ true) × (same_type p q ≡ true)
met_types k l p q x y e =
    let parts = four (bytes_eq p.base q.base) (bytes_eq k.module l.module) (bytes_eq k.base l.base) (bytes_eq p.module q.module) e in
    (and_true (bytes_eq k.module l.module) (bytes_eq k.base l.base) parts.1 parts.2, and_true (bytes_eq p.module q.module) (bytes_eq p.base q.base) parts.3 parts.0)

parts_of : (a b : Bool) → (a && b) ≡ true → (a ≡ true) × (b ≡ true)
parts_of true b e = (refl, e)
parts_of false b e = absurd cc

types_meet : (k l p q : Key) (x y : Place) → same_type k l ≡ true → same_type p q ≡ true → meets (conformance_name k x p) (conformance_name l y q) ≡ true
types_meet k l p q x y e f =
    let first = parts_of (bytes_eq k.module l.module) (bytes_eq k.base l.base) e in
    let second = parts_of (bytes_eq p.module q.module) (bytes_eq p.base q.base) f in
    four_true (bytes_eq p.base q.base) (bytes_eq k.module l.module) (bytes_eq k.base l.base) (bytes_eq p.module q.module) second.1 first.0 first.1 second.0

-- ---- what a name stands for

record Standing (test : Key → Bool) (w : World) (es : List Entry) (n : ℕ) (a : DeclaredName) : Type 0 where
  outer : ℕ
  inner : ℕ
  number : ℕ
  entry : Entry
  key : Key
  name : TypeName
  protocol : Key
  at : slice_get es outer ≡ Some entry
  is : type_of w entry.kind ≡ Some key
  tested : test key ≡ true
  at_name : slice_get (inherit_list entry.kind) number ≡ Some name
  named : protocol_named w name ≡ Some protocol
  same : a ≡ conformance_name key name.place protocol
  sum : n ≡ start (names_in test w) es outer + inner
  here : slice_get (names_in test w entry) inner ≡ Some a
  begins : inner ≡ start (name_by w key) (inherit_list entry.kind) number

record Named (w : World) (k : Key) (ts : List TypeName) (n : ℕ) (a : DeclaredName) : Type 0 where
  number : ℕ
  name : TypeName
  protocol : Key
  at : slice_get ts number ≡ Some name
  is : protocol_named w name ≡ Some protocol
  same : a ≡ conformance_name k name.place protocol
  begins : n ≡ start (name_by w k) ts number

record Mapped (k : Key) (p : Place) (o : Option Key) (a : DeclaredName) : Type 0 where
  protocol : Key
  is : o ≡ Some protocol
  same : a ≡ conformance_name k p protocol

mapped : (k : Key) (p : Place) (o : Option Key) (a : DeclaredName) → option_map (conformance_name k p) o ≡ Some a → Mapped k p o a
mapped k p None a e = absurd cc
mapped k p (Some q) a e = record { protocol = q; is = refl; same = cc }

named_at : (w : World) (k : Key) (ts : List TypeName) (n : ℕ) (a : DeclaredName) → slice_get (names_by w k ts) n ≡ Some a → Named w k ts n a
named_at w k ts n a e =
    let s = spread (name_by w k) ts n a e in
    let one = listed (option_map (conformance_name k s.item.place) (protocol_named w s.item)) s.inner a s.here in
    let m = mapped k s.item.place (protocol_named w s.item) a one.1 in
    let sum : n ≡ start (name_by w k) ts s.outer + s.inner = s.sum in
    let none : s.inner ≡ 0 = one.0 in
    record { number = s.outer; name = s.item; protocol = m.protocol; at = s.at; is = m.is; same = m.same; begins = omega arith }

record Tested (test : Key → Bool) (w : World) (e : Entry) (n : ℕ) (a : DeclaredName) : Type 0 where
  key : Key
  is : type_of w e.kind ≡ Some key
  passed : test key ≡ true
  there : slice_get (names_by w key (inherit_list e.kind)) n ≡ Some a

tested_if : (test : Key → Bool) (w : World) (e : Entry) (n : ℕ) (a : DeclaredName) (k : Key) (b : Bool) → type_of w e.kind ≡ Some k → test k ≡ b → slice_get (if b then names_by w k (inherit_list e.kind) else []) n ≡ Some a → Tested test w e n a
tested_if test w e n a k true is passed at = record { key = k; is = is; passed = passed; there = at }
tested_if test w e n a k false is passed at = absurd cc

tested_at : (test : Key → Bool) (w : World) (e : Entry) (n : ℕ) (a : DeclaredName) (o : Option Key) → type_of w e.kind ≡ o → slice_get (option_map_or (tested_by test w e) o []) n ≡ Some a → Tested test w e n a
tested_at test w e n a None is at = absurd cc
tested_at test w e n a (Some k) is at = tested_if test w e n a k (test k) is refl at

standing : (test : Key → Bool) (w : World) (es : List Entry) (n : ℕ) (a : DeclaredName) → slice_get (all_names test w es) n ≡ Some a → Standing test w es n a
standing test w es n a e =
    let s = spread (names_in test w) es n a e in
    let t = tested_at test w s.item s.inner a (type_of w s.item.kind) refl s.here in
    let m = named_at w t.key (inherit_list s.item.kind) s.inner a t.there in
    record { outer = s.outer; inner = s.inner; number = m.number; entry = s.item; key = t.key; name = m.name; protocol = m.protocol; at = s.at; is = t.is; tested = t.passed; at_name = m.at; named = m.is; same = m.same; sum = s.sum; here = s.here; begins = m.begins }

-- ---- and where it stands

named_there : (w : World) (k : Key) (ts : List TypeName) (i : ℕ) (t : TypeName) (p : Key) → slice_get ts i ≡ Some t → protocol_named w t ≡ Some p → slice_get (names_by w k ts) (start (name_by w k) ts i) ≡ Some (conformance_name k t.place p)
named_there w k ts i t p at is =
    let z : start (name_by w k) ts i + 0 ≡ start (name_by w k) ts i = omega arith in
    subst (λ m. slice_get (names_by w k ts) m ≡ Some (conformance_name k t.place p)) z (gather (name_by w k) ts i t 0 (conformance_name k t.place p) at (listed_at (option_map (conformance_name k t.place) (protocol_named w t)) (conformance_name k t.place p) (ap (option_map (conformance_name k t.place)) is)))

entry_names : (test : Key → Bool) (w : World) (e : Entry) (k : Key) → type_of w e.kind ≡ Some k → test k ≡ true → names_in test w e ≡ names_by w k (inherit_list e.kind)
entry_names test w e k is passed = ap (λ (o : Option Key). option_map_or (tested_by test w e) o []) is ∙ ap (λ (b : Bool). if b then names_by w k (inherit_list e.kind) else []) passed

abbrev spot_at : (test : Key → Bool) (w : World) (es : List Entry) (d : ℕ) (e : Entry) (k : Key) (i : ℕ) → ℕ
spot_at test w es d e k i = start (names_in test w) es d + start (name_by w k) (inherit_list e.kind) i

module _ (test : Key → Bool) (w : World) (es : List Entry) (d i : ℕ) (e : Entry) (k : Key) (t : TypeName) (p : Key) (at : slice_get es d ≡ Some e) (is : type_of w e.kind ≡ Some k) (passed : test k ≡ true) (at_t : slice_get (inherit_list e.kind) i ≡ Some t) (named : protocol_named w t ≡ Some p) where
  in_entry : slice_get (names_in test w e) (start (name_by w k) (inherit_list e.kind) i) ≡ Some (conformance_name k t.place p)
  in_entry = ap (λ ns. slice_get ns (start (name_by w k) (inherit_list e.kind) i)) (entry_names test w e k is passed) ∙ named_there w k (inherit_list e.kind) i t p at_t named

  in_all : slice_get (all_names test w es) (spot_at test w es d e k i) ≡ Some (conformance_name k t.place p)
  in_all = gather (names_in test w) es d e (start (name_by w k) (inherit_list e.kind) i) (conformance_name k t.place p) at in_entry

-- ---- the order of two

one_name : (w : World) (k : Key) (t : TypeName) (p : Key) → protocol_named w t ≡ Some p → 0 < length (name_by w k t)
one_name w k t p is = below (name_by w k t) 0 (conformance_name k t.place p) (listed_at (option_map (conformance_name k t.place) (protocol_named w t)) (conformance_name k t.place p) (ap (option_map (conformance_name k t.place)) is))

number_order : (w : World) (k : Key) (ts : List TypeName) (i j : ℕ) (u : TypeName) (q : Key) → slice_get ts j ≡ Some u → protocol_named w u ≡ Some q → start (name_by w k) ts i < start (name_by w k) ts j → i < j
number_order w k ts i j u q at is less = by (order_to (name_by w k) ts i 0 j 0 u at (one_name w k u q is) (omega arith))
  where
    by : Before i 0 j 0 → i < j
    by (inl l) = l
    by (inr (s, l)) = absurd (omega arith)

some_same : {A : Type 0} (a b : A) → Some a ≡ Some b → a ≡ b
some_same a b e = cc

module _ (test : Key → Bool) (w : World) (es : List Entry) (n m : ℕ) (a b : DeclaredName) (s : Standing test w es n a) (t : Standing test w es m b) where
  within_one : s.outer ≡ t.outer → s.inner < t.inner → s.number < t.number
  within_one same less =
      let entry : t.entry ≡ s.entry = some_same t.entry s.entry (sym t.at ∙ ap (slice_get es) (sym same) ∙ s.at) in
      let key : t.key ≡ s.key = some_same t.key s.key (sym t.is ∙ ap (λ (x : Entry). type_of w x.kind) entry ∙ s.is) in
      let moved : slice_get (inherit_list s.entry.kind) t.number ≡ Some t.name = ap (λ (x : Entry). slice_get (inherit_list x.kind) t.number) (sym entry) ∙ t.at_name in
      let begins : start (name_by w t.key) (inherit_list t.entry.kind) t.number ≡ start (name_by w s.key) (inherit_list s.entry.kind) t.number = ap₂ (λ (k : Key) (x : Entry). start (name_by w k) (inherit_list x.kind) t.number) key entry in
      let first : s.inner ≡ start (name_by w s.key) (inherit_list s.entry.kind) s.number = s.begins in
      let second : t.inner ≡ start (name_by w t.key) (inherit_list t.entry.kind) t.number = t.begins in
      number_order w s.key (inherit_list s.entry.kind) s.number t.number t.name t.protocol moved t.named (omega arith)

  before_by : Before s.outer s.inner t.outer t.inner → Before s.outer s.number t.outer t.number
  before_by (inl l) = inl l
  before_by (inr (e, l)) = inr (e, within_one e l)

  stand_before : n < m → Before s.outer s.number t.outer t.number
  stand_before less =
      let one : n ≡ start (names_in test w) es s.outer + s.inner = s.sum in
      let two : m ≡ start (names_in test w) es t.outer + t.inner = t.sum in
      before_by (order_to (names_in test w) es s.outer s.inner t.outer t.inner t.entry t.at (below (names_in test w t.entry) t.inner b t.here) (omega arith))

-- ---- what stands before another is named before it

start_order : (w : World) (k : Key) (ts : List TypeName) (i j : ℕ) (t : TypeName) (p : Key) → slice_get ts i ≡ Some t → protocol_named w t ≡ Some p → i < j → start (name_by w k) ts i < start (name_by w k) ts j
start_order w k ts i j t p at is less =
    let r : start (name_by w k) ts i + 0 < start (name_by w k) ts j + 0 = order_from (name_by w k) ts i 0 j 0 t at (one_name w k t p is) (inl less) in
    omega arith

-- ---- what the import has

any_right : {A : Type 0} (f : A → Bool) (xs ys : List A) → list_any f ys ≡ true → list_any f (xs ++ ys) ≡ true
any_right f [] ys e = e
any_right f (x ∷ xs) ys e = either (f x) (list_any f (xs ++ ys)) (any_right f xs ys e)
  where
    either : (a b : Bool) → b ≡ true → (a || b) ≡ true
    either true b q = refl
    either false b q = q

left_next : (b x y : Bool) → (b || x) ≡ true → (x ≡ true → y ≡ true) → (b || y) ≡ true
left_next true x y e next = refl
left_next false x y e next = next e

any_left : {A : Type 0} (f : A → Bool) (xs ys : List A) → list_any f xs ≡ true → list_any f (xs ++ ys) ≡ true
any_left f [] ys e = absurd cc
any_left f (x ∷ xs) ys e = left_next (f x) (list_any f xs) (list_any f (xs ++ ys)) e (any_left f xs ys)

split_next : (b x y z : Bool) → (b || x) ≡ true → (x ≡ true → (y ≡ true) ⊎ (z ≡ true)) → ((b || y) ≡ true) ⊎ (z ≡ true)
split_next true x y z e next = inl refl
split_next false x y z e next = next e

any_split : {A : Type 0} (f : A → Bool) (xs ys : List A) → list_any f (xs ++ ys) ≡ true → (list_any f xs ≡ true) ⊎ (list_any f ys ≡ true)
any_split f [] ys e = inr e
any_split f (x ∷ xs) ys e = split_next (f x) (list_any f (xs ++ ys)) (list_any f xs) (list_any f ys) e (any_split f xs ys)

record Holding {A B : Type 0} (f : B → Bool) (g : A → List B) (xs : List A) : Type 0 where
  number : ℕ
  item : A
  at : slice_get xs number ≡ Some item
  any : list_any f (g item) ≡ true

holding_by : {A B : Type 0} (f : B → Bool) (g : A → List B) (x : A) (xs : List A) → (list_any f (g x) ≡ true) ⊎ Holding f g xs → Holding f g (x ∷ xs)
holding_by f g x xs (inl h) = record { number = 0; item = x; at = refl; any = h }
holding_by f g x xs (inr r) = record { number = suc r.number; item = r.item; at = r.at; any = r.any }

rest_holding : {A B : Type 0} (f : B → Bool) (g : A → List B) (x : A) (xs : List A) → (list_any f (flat_map g xs) ≡ true → Holding f g xs) → (list_any f (g x) ≡ true) ⊎ (list_any f (flat_map g xs) ≡ true) → (list_any f (g x) ≡ true) ⊎ Holding f g xs
rest_holding f g x xs rest (inl h) = inl h
rest_holding f g x xs rest (inr h) = inr (rest h)

holding : {A B : Type 0} (f : B → Bool) (g : A → List B) (xs : List A) → list_any f (flat_map g xs) ≡ true → Holding f g xs
holding f g [] e = absurd cc
holding f g (x ∷ xs) e = holding_by f g x xs (rest_holding f g x xs (holding f g xs) (any_split f (g x) (flat_map g xs) e))

holds : {A B : Type 0} (f : B → Bool) (g : A → List B) (xs : List A) (n : ℕ) (x : A) → slice_get xs n ≡ Some x → list_any f (g x) ≡ true → list_any f (flat_map g xs) ≡ true
holds f g [] n x at e = absurd cc
holds f g (y ∷ ys) zero x at e = let same : y ≡ x = cc in any_left f (g y) (flat_map g ys) (ap (λ z. list_any f (g z)) same ∙ e)
holds f g (y ∷ ys) (suc n) x at e = any_right f (g y) (flat_map g ys) (holds f g ys n x at e)

-- ---- in a filtered list

record Kept {A : Type 0} (test : A → Bool) (xs : List A) (x : A) : Type 0 where
  number : ℕ
  at : slice_get xs number ≡ Some x
  passed : test x ≡ true

later_kept : {A : Type 0} (test : A → Bool) (y : A) (ys : List A) (x : A) → Kept test ys x → Kept test (y ∷ ys) x
later_kept test y ys x k = record { number = suc k.number; at = k.at; passed = k.passed }

kept_by : {A : Type 0} (test : A → Bool) (y : A) (ys : List A) (b : Bool) (n : ℕ) (x : A) → test y ≡ b → ((m : ℕ) → slice_get (filter test ys) m ≡ Some x → Kept test ys x) → slice_get (if b then y ∷ filter test ys else filter test ys) n ≡ Some x → Kept test (y ∷ ys) x
kept_by test y ys true zero x is rest e = let same : y ≡ x = cc in record { number = 0; at = e; passed = ap test (sym same) ∙ is }
kept_by test y ys true (suc n) x is rest e = later_kept test y ys x (rest n e)
kept_by test y ys false n x is rest e = later_kept test y ys x (rest n e)

kept : {A : Type 0} (test : A → Bool) (xs : List A) (n : ℕ) (x : A) → slice_get (filter test xs) n ≡ Some x → Kept test xs x
kept test [] n x e = absurd cc
kept test (y ∷ ys) n x e = kept_by test y ys (test y) n x refl (λ m g. kept test ys m x g) e

holds_by : {A B : Type 0} (f : B → Bool) (g : A → List B) (test : A → Bool) (y : A) (ys : List A) (b : Bool) → list_any f (flat_map g (filter test ys)) ≡ true → list_any f (flat_map g (if b then y ∷ filter test ys else filter test ys)) ≡ true
holds_by f g test y ys true e = any_right f (g y) (flat_map g (filter test ys)) e
holds_by f g test y ys false e = e

holds_first : {A B : Type 0} (f : B → Bool) (g : A → List B) (test : A → Bool) (y : A) (ys : List A) (b : Bool) → b ≡ true → list_any f (g y) ≡ true → list_any f (flat_map g (if b then y ∷ filter test ys else filter test ys)) ≡ true
holds_first f g test y ys true is e = any_left f (g y) (flat_map g (filter test ys)) e
holds_first f g test y ys false is e = absurd cc

holds_kept : {A B : Type 0} (f : B → Bool) (g : A → List B) (test : A → Bool) (xs : List A) (n : ℕ) (x : A) → slice_get xs n ≡ Some x → test x ≡ true → list_any f (g x) ≡ true → list_any f (flat_map g (filter test xs)) ≡ true
holds_kept f g test [] n x at is e = absurd cc
holds_kept f g test (y ∷ ys) zero x at is e = let same : y ≡ x = cc in holds_first f g test y ys (test y) (ap test same ∙ is) (ap (λ z. list_any f (g z)) same ∙ e)
holds_kept f g test (y ∷ ys) (suc n) x at is e = holds_by f g test y ys (test y) (holds_kept f g test ys n x at is e)

-- ---- an import's conformance

abbrev protocols : Declaration → TypeName → List Key
protocols d t = list_of (protocol_named d.world t)

abbrev alike : Key → Key → Bool
alike p x = same_type x p

any_listed : (o : Option Key) (q p : Key) → o ≡ Some q → same_type q p ≡ true → list_any (alike p) (list_of o) ≡ true
any_listed o q p is e = ap (λ (x : Option Key). list_any (alike p) (list_of x)) is ∙ or_true (same_type q p) false e

record Liked (o : Option Key) (p : Key) : Type 0 where
  key : Key
  is : o ≡ Some key
  same : same_type key p ≡ true

liked : (o : Option Key) (p : Key) → list_any (alike p) (list_of o) ≡ true → Liked o p
liked None p e = absurd cc
liked (Some q) p e = record { key = q; is = refl; same = or_false (same_type q p) e }

abbrev declaring : Key → Declaration → Bool
declaring k d = declares k d d.entry.kind

abbrev extending : Key → Declaration → Bool
extending k d = extends k d d.entry.kind

either_true : (a b : Bool) → (a || b) ≡ true → (a ≡ true) ⊎ (b ≡ true)
either_true true b e = inl refl
either_true false b e = inr e

or_right : (a b : Bool) → b ≡ true → (a || b) ≡ true
or_right true b e = refl
or_right false b e = e

record Foreign (m : Listing) (k p : Key) : Type 0 where
  outer : ℕ
  number : ℕ
  entry : Entry
  key : Key
  name : TypeName
  protocol : Key
  at : slice_get m.entries outer ≡ Some entry
  is : type_of (alone m) entry.kind ≡ Some key
  same : same_type key k ≡ true
  at_name : slice_get (inherit_list entry.kind) number ≡ Some name
  named : protocol_named (alone m) name ≡ Some protocol
  same_protocol : same_type protocol p ≡ true

world_at : (w : World) (i : ℕ) (d : Declaration) → slice_get (own_declarations w) i ≡ Some d → d.world ≡ w
world_at w i d at = let same : d ≡ within w d.entry = some_same d (within w d.entry) (sym at ∙ at_of w i d.entry (entry_of w i d at)) in ap (λ (x : Declaration). x.world) same

foreign_by : (m : Listing) (k p : Key) (n : ℕ) (d : Declaration) → slice_get (own_declarations (alone m)) n ≡ Some d → (declaring k d || extending k d) ≡ true → list_any (alike p) (protocols_named d) ≡ true → Foreign m k p
foreign_by m k p n d at is any =
    let world = world_at (alone m) n d at in
    let one = typed (alone m) d d.entry.kind k world is in
    let h = holding (alike p) (protocols d) (inherit_list d.entry.kind) any in
    let l = liked (protocol_named d.world h.item) p h.any in
    record { outer = n; number = h.number; entry = d.entry; key = one.key; name = h.item; protocol = l.key; at = entry_of (alone m) n d at; is = one.is; same = one.same; at_name = h.at; named = ap (λ (x : World). protocol_named x h.item) (sym world) ∙ l.is; same_protocol = l.same }

foreign_found : (m : Listing) (k p : Key) → is_among p (conformances (alone m) k) ≡ true → Foreign m k p
unfolding conformances declarations
foreign_found m k p e = by (any_split (alike p) (flat_map protocols_named (filter (declaring k) (own_declarations (alone m)))) (flat_map protocols_named (filter (extending k) (own_declarations (alone m)))) e)
  where
    by : (list_any (alike p) (flat_map protocols_named (filter (declaring k) (own_declarations (alone m)))) ≡ true) ⊎ (list_any (alike p) (flat_map protocols_named (filter (extending k) (own_declarations (alone m)))) ≡ true) → Foreign m k p
    by (inl f) =
        let h = holding (alike p) protocols_named (filter (declaring k) (own_declarations (alone m))) f in
        let x = kept (declaring k) (own_declarations (alone m)) h.number h.item h.at in
        foreign_by m k p x.number h.item x.at (or_true (declaring k h.item) (extending k h.item) x.passed) h.any
    by (inr f) =
        let h = holding (alike p) protocols_named (filter (extending k) (own_declarations (alone m))) f in
        let x = kept (extending k) (own_declarations (alone m)) h.number h.item h.at in
        foreign_by m k p x.number h.item x.at (or_right (declaring k h.item) (extending k h.item) x.passed) h.any

among : (m : Listing) (k p : Key) (n i : ℕ) (e : Entry) (key : Key) (t : TypeName) (q : Key) → slice_get m.entries n ≡ Some e → type_of (alone m) e.kind ≡ Some key → same_type key k ≡ true → slice_get (inherit_list e.kind) i ≡ Some t → protocol_named (alone m) t ≡ Some q → same_type q p ≡ true → is_among p (conformances (alone m) k) ≡ true
unfolding conformances declarations
among m k p n i e key t q at is same at_t named like = by (either_true (declaring k (within (alone m) e)) (extending k (within (alone m) e)) (of_type (alone m) (within (alone m) e) e.kind key k refl is same))
  where
    here : list_any (alike p) (protocols_named (within (alone m) e)) ≡ true
    here = holds (alike p) (protocols (within (alone m) e)) (inherit_list e.kind) i t at_t (any_listed (protocol_named (alone m) t) q p named like)

    by : (declaring k (within (alone m) e) ≡ true) ⊎ (extending k (within (alone m) e) ≡ true) → list_any (alike p) (flat_map protocols_named (filter (declaring k) (own_declarations (alone m))) ++ flat_map protocols_named (filter (extending k) (own_declarations (alone m)))) ≡ true
    by (inl f) = any_left (alike p) (flat_map protocols_named (filter (declaring k) (own_declarations (alone m)))) (flat_map protocols_named (filter (extending k) (own_declarations (alone m)))) (holds_kept (alike p) protocols_named (declaring k) (own_declarations (alone m)) n (within (alone m) e) (at_of (alone m) n e at) f here)
    by (inr f) = any_right (alike p) (flat_map protocols_named (filter (declaring k) (own_declarations (alone m)))) (flat_map protocols_named (filter (extending k) (own_declarations (alone m)))) (holds_kept (alike p) protocols_named (extending k) (own_declarations (alone m)) n (within (alone m) e) (at_of (alone m) n e at) f here)

-- ---- what is answered

abbrev both_names : World → List DeclaredName
both_names w = imported_names w ++ own_names w

conforms : (w : World) (d i : ℕ) (e : Entry) (key k : Key) (t : TypeName) (p : Key) → slice_get w.own.entries d ≡ Some e → type_of w e.kind ≡ Some key → same_type key k ≡ true → slice_get (inherit_list e.kind) i ≡ Some t → protocol_named w t ≡ Some p → Conforms w k p d i t
conforms w d i e key k t p at is same at_t named = record { declaration = within w e; at = at_of w d e at; of_type = true_is (declares k (within w e) e.kind || extends k (within w e) e.kind) (of_type w (within w e) e.kind key k refl is same); name = at_t; protocol = named }

meets_named : (a b : DeclaredName) (k l p q : Key) (x y : Place) → a ≡ conformance_name k x p → b ≡ conformance_name l y q → meets a b ≡ true → (same_type k l ≡ true) × (same_type p q ≡ true)
meets_named a b k l p q x y e f met = met_types k l p q x y (ap₂ meets (sym e) (sym f) ∙ met)

module _ (w : World) where
  own_second : (n m : ℕ) (a b : DeclaredName) → Standing (is_type_key w) w w.own.entries n a → Standing (is_type_key w) w w.own.entries m b → n < m → meets a b ≡ true → IsSecond w b.place
  own_second n m a b s t less met =
      let like = meets_named a b s.key t.key s.protocol t.protocol s.name.place t.name.place s.same t.same met in
      let one : s.protocol ≡ t.protocol = one_key s.protocol t.protocol (plain_protocol w s.name s.protocol s.named) (plain_protocol w t.name t.protocol t.named) like.1 in
      let first = conforms w s.outer s.number s.entry s.key t.key s.name t.protocol s.at s.is like.0 s.at_name (s.named ∙ ap (λ (x : Key). Some x) one) in
      let second = conforms w t.outer t.number t.entry t.key t.key t.name t.protocol t.at t.is (same_itself t.key t.key refl refl) t.at_name t.named in
      let place : t.name.place ≡ b.place = ap (λ (x : DeclaredName). x.place) (sym t.same) in
      subst (IsSecond w) place (conformance (true_is (is_type_key w t.key) t.tested) first second (stand_before (is_type_key w) w w.own.entries n m a b s t less))

  foreign_second : (l : Listing) (n m : ℕ) (a b : DeclaredName) → w.imported ≡ Some l → Standing any_key (alone l) l.entries n a → Standing (is_type_key w) w w.own.entries m b → meets a b ≡ true → IsSecond w b.place
  foreign_second l n m a b is s t met =
      let like = meets_named a b s.key t.key s.protocol t.protocol s.name.place t.name.place s.same t.same met in
      let there = among l t.key t.protocol s.outer s.number s.entry s.key s.name s.protocol s.at s.is like.0 s.at_name s.named like.1 in
      let second = conforms w t.outer t.number t.entry t.key t.key t.name t.protocol t.at t.is (same_itself t.key t.key refl refl) t.at_name t.named in
      let place : t.name.place ≡ b.place = ap (λ (x : DeclaredName). x.place) (sym t.same) in
      subst (IsSecond w) place (foreign l is (true_is (is_type_key w t.key) t.tested) (true_is (is_among t.protocol (conformances (alone l) t.key)) there) second)

  imported_second : (o : Option Listing) (n m : ℕ) (a b : DeclaredName) → w.imported ≡ o → slice_get (option_map_or (λ (l : Listing). all_names any_key (alone l) l.entries) o []) n ≡ Some a → Standing (is_type_key w) w w.own.entries m b → meets a b ≡ true → IsSecond w b.place
  imported_second None n m a b is at t met = absurd cc
  imported_second (Some l) n m a b is at t met = foreign_second l n m a b is (standing any_key (alone l) l.entries n a at) t met

  earlier_second : (i j : ℕ) (a b : DeclaredName) → Behind (imported_names w) (own_names w) j b → i < j → (slice_get (imported_names w) i ≡ Some a) ⊎ Behind (imported_names w) (own_names w) i a → meets a b ≡ true → IsSecond w b.place
  unfolding imported_names own_names
  earlier_second i j a b later less (inl h) met = imported_second w.imported i later.number a b refl h (standing (is_type_key w) w w.own.entries later.number b later.there) met
  earlier_second i j a b later less (inr earlier) met =
      let one = earlier.sum in
      let two = later.sum in
      own_second earlier.number later.number a b (standing (is_type_key w) w w.own.entries earlier.number a earlier.there) (standing (is_type_key w) w w.own.entries later.number b later.there) (omega arith) met

  later_second : (i j : ℕ) (a b : DeclaredName) → length (imported_names w) ≤ j → i < j → slice_get (both_names w) i ≡ Some a → (slice_get (imported_names w) j ≡ Some b) ⊎ Behind (imported_names w) (own_names w) j b → meets a b ≡ true → IsSecond w b.place
  later_second i j a b from less at (inl h) met = let r : j < length (imported_names w) = below (imported_names w) j b h in absurd (omega arith)
  later_second i j a b from less at (inr later) met = earlier_second i j a b later less (split (imported_names w) (own_names w) i a at) met

  pub twice_second : (p : Place) → IsTwice (both_names w) (length (imported_names w)) p → IsSecond w p
  twice_second p t = subst (IsSecond w) (sym t.place) (later_second t.i t.j t.meet.earlier t.meet.later t.from_start t.before t.meet.at_i (split (imported_names w) (own_names w) t.j t.meet.later t.meet.at_j) (is_true (meets t.meet.earlier t.meet.later) t.meet.met))

-- ---- where none is answered

-- it is named here
record Spoken (w : World) (k p : Key) (d i : ℕ) (t : TypeName) : Type 0 where
  entry : Entry
  key : Key
  at : slice_get w.own.entries d ≡ Some entry
  is : type_of w entry.kind ≡ Some key
  same : same_type key k ≡ true
  tested : is_type_key w key ≡ true
  at_t : slice_get (inherit_list entry.kind) i ≡ Some t
  named : protocol_named w t ≡ Some p

module _ (w : World) where
  spoken : (k p : Key) (d i : ℕ) (t : TypeName) → is_type_key w k ≡ true → Conforms w k p d i t → Spoken w k p d i t
  spoken k p d i t tested c =
      let one = typed w c.declaration c.declaration.entry.kind k (world_at w d c.declaration c.at) (is_true (declares k c.declaration c.declaration.entry.kind || extends k c.declaration c.declaration.entry.kind) c.of_type) in
      record { entry = c.declaration.entry; key = one.key; at = entry_of w d c.declaration c.at; is = one.is; same = one.same; tested = same_test w one.key k one.same ∙ tested; at_t = c.name; named = c.protocol }

  abbrev spoken_at : (k p : Key) (d i : ℕ) (t : TypeName) → Spoken w k p d i t → ℕ
  spoken_at k p d i t s = spot_at (is_type_key w) w w.own.entries d s.entry s.key i

  spoken_there : (k p : Key) (d i : ℕ) (t : TypeName) (s : Spoken w k p d i t) → slice_get (both_names w) (length (imported_names w) + spoken_at k p d i t s) ≡ Some (conformance_name s.key t.place p)
  unfolding own_names
  spoken_there k p d i t s = at_right (imported_names w) (own_names w) (spoken_at k p d i t s) (conformance_name s.key t.place p) (in_all (is_type_key w) w w.own.entries d i s.entry s.key t p s.at s.is s.tested s.at_t s.named)

  spoken_order : (k p : Key) (d i e j : ℕ) (t u : TypeName) (a : Spoken w k p d i t) (b : Spoken w k p e j u) → Before d i e j → spoken_at k p d i t a < spoken_at k p e j u b
  spoken_order k p d i e j t u a b before = order_from (names_in (is_type_key w) w) w.own.entries d (start (name_by w a.key) (inherit_list a.entry.kind) i) e (start (name_by w b.key) (inherit_list b.entry.kind) j) a.entry a.at (below (names_in (is_type_key w) w a.entry) (start (name_by w a.key) (inherit_list a.entry.kind) i) (conformance_name a.key t.place p) (in_entry (is_type_key w) w w.own.entries d i a.entry a.key t p a.at a.is a.tested a.at_t a.named)) (by before)
    where
      by : Before d i e j → Before d (start (name_by w a.key) (inherit_list a.entry.kind) i) e (start (name_by w b.key) (inherit_list b.entry.kind) j)
      by (inl l) = inl l
      by (inr (s, l)) =
          let entry : b.entry ≡ a.entry = some_same b.entry a.entry (sym b.at ∙ ap (slice_get w.own.entries) (sym s) ∙ a.at) in
          let key : b.key ≡ a.key = some_same b.key a.key (sym b.is ∙ ap (λ (x : Entry). type_of w x.kind) entry ∙ a.is) in
          let begins : start (name_by w b.key) (inherit_list b.entry.kind) j ≡ start (name_by w a.key) (inherit_list a.entry.kind) j = ap₂ (λ (x : Key) (y : Entry). start (name_by w x) (inherit_list y.kind) j) key entry in
          let less : start (name_by w a.key) (inherit_list a.entry.kind) i < start (name_by w a.key) (inherit_list a.entry.kind) j = start_order w a.key (inherit_list a.entry.kind) i j t p a.at_t a.named l in
          inr (s, omega arith)

  like_both : (a b k : Key) → same_type a k ≡ true → same_type b k ≡ true → same_type a b ≡ true
  like_both a b k e f = let x = same_parts a k e in let y = same_parts b k f in same_itself a b (x.0 ∙ sym y.0) (x.1 ∙ sym y.1)

  abbrev None_twice : Type 0
  None_twice = NoneTwice (both_names w) (length (imported_names w))

  no_own : (k p : Key) (d i e j : ℕ) (t u : TypeName) → None_twice → Spoken w k p d i t → Spoken w k p e j u → Before d i e j → ⊥
  no_own k p d i e j t u none a b before =
      let less : spoken_at k p d i t a < spoken_at k p e j u b = spoken_order k p d i e j t u a b before in
      let met = types_meet a.key b.key p p t.place u.place (like_both a.key b.key k a.same b.same) (same_itself p p refl refl) in
      none (length (imported_names w) + spoken_at k p d i t a) (length (imported_names w) + spoken_at k p e j u b) (omega arith) (omega arith)
      (record { earlier = conformance_name a.key t.place p; later = conformance_name b.key u.place p; at_i = spoken_there k p d i t a; at_j = spoken_there k p e j u b; met = true_is (meets (conformance_name a.key t.place p) (conformance_name b.key u.place p)) met })

  imported_at : (l : Listing) (n : ℕ) (a : DeclaredName) → w.imported ≡ Some l → slice_get (all_names any_key (alone l) l.entries) n ≡ Some a → slice_get (imported_names w) n ≡ Some a
  unfolding imported_names
  imported_at l n a is at = ap (λ (o : Option Listing). slice_get (option_map_or (λ (x : Listing). all_names any_key (alone x) x.entries) o []) n) is ∙ at

  no_foreign : (l : Listing) (k p : Key) (d i : ℕ) (t : TypeName) → w.imported ≡ Some l → None_twice → Foreign l k p → Spoken w k p d i t → ⊥
  no_foreign l k p d i t is none f b =
      let n = spot_at any_key (alone l) l.entries f.outer f.entry f.key f.number in
      let a = conformance_name f.key f.name.place f.protocol in
      let at = imported_at l n a is (in_all any_key (alone l) l.entries f.outer f.number f.entry f.key f.name f.protocol f.at f.is refl f.at_name f.named) in
      let less : n < length (imported_names w) = below (imported_names w) n a at in
      let met = types_meet f.key b.key f.protocol p f.name.place t.place (like_both f.key b.key k f.same b.same) f.same_protocol in
      none n (length (imported_names w) + spoken_at k p d i t b) (omega arith) (omega arith)
      (record { earlier = a; later = conformance_name b.key t.place p; at_i = at_left (imported_names w) (own_names w) n a at; at_j = spoken_there k p d i t b; met = true_is (meets a (conformance_name b.key t.place p)) met })

  pub none_second : None_twice → NoneSecond w
  none_second none q (conformance {k} {p} {d} {i} {e} {j} {t} {u} tested a b before) = no_own k p d i e j t u none (spoken k p d i t (is_true (is_type_key w k) tested) a) (spoken k p e j u (is_true (is_type_key w k) tested) b) before
  none_second none q (foreign {k} {p} {d} {i} {t} l is tested there c) = no_foreign l k p d i t is none (foreign_found l k p (is_true (is_among p (conformances (alone l) k)) there)) (spoken k p d i t (is_true (is_type_key w k) tested) c)

-- ---- the two together

pub answered : (w : World) (names : List DeclaredName) (number : ℕ) (o : Option Place) → names ≡ both_names w → number ≡ length (imported_names w) → MatchOption o (NoneTwice names number) (λ p. IsTwice names number p) → MatchOption o (NoneSecond w) (IsSecond w)
answered w names number None is start m = none_second w (subst (λ x. NoneTwice x (length (imported_names w))) is (subst (λ x. NoneTwice names x) start m))
answered w names number (Some p) is start m = twice_second w p (subst (λ x. IsTwice x (length (imported_names w)) p) is (subst (λ x. IsTwice names x p) start m))

pub answered_ok : {E : Type 0} (w : World) (names : List DeclaredName) (number : ℕ) (r : Result (Option Place) E) → names ≡ both_names w → number ≡ length (imported_names w) → IfOk r (λ o. MatchOption o (NoneTwice names number) (λ p. IsTwice names number p)) → IfOk r (λ o. MatchOption o (NoneSecond w) (IsSecond w))
answered_ok w names number (Ok o) is start m = answered w names number o is start m
answered_ok w names number (Err e) is start m = m
