-- The initialiser that a struct has without writing it is that of the definition.
use Rattle.std.proofs.Common.{◌≡◌, List, [], ◌∷◌, ◌++◌, Bool, true, false, ◌&&◌, ◌||◌, filter, flat_map, Option, Some, None, if◌then◌else◌, refl, sym, ap, ap₂, ◌∙◌}
use Rattle.std.specs.List.{list_any}
use Rattle.evo_names.specs.Listed.{Text, Entry, Listing, is_initialiser, is_interface, sort_of, stands_in_braces, stored_by, in_braces_of, memberwise_labels}
use Rattle.evo_meeting.specs.Unwritten.{is_written, any_written, stored_at, stored, has_none}

any_filter : {A : Type 0} (p f : A → Bool) (xs : List A) → list_any f (filter p xs) ≡ list_any (λ x. p x && f x) xs
any_filter p f [] = refl
any_filter p f (x ∷ xs) = by (p x) (any_filter p f xs)
  where
    by : (b : Bool) → list_any f (filter p xs) ≡ list_any (λ y. p y && f y) xs → list_any f (if b then x ∷ filter p xs else filter p xs) ≡ ((b && f x) || list_any (λ y. p y && f y) xs)
    by true e = ap (λ r. f x || r) e
    by false e = e

flat_filter : {A B : Type 0} (p : A → Bool) (f : A → List B) (xs : List A) → flat_map f (filter p xs) ≡ flat_map (λ x. if p x then f x else []) xs
flat_filter p f [] = refl
flat_filter p f (x ∷ xs) = by (p x) (flat_filter p f xs)
  where
    by : (b : Bool) → flat_map f (filter p xs) ≡ flat_map (λ y. if p y then f y else []) xs → flat_map f (if b then x ∷ filter p xs else filter p xs) ≡ (if b then f x else []) ++ flat_map (λ y. if p y then f y else []) xs
    by true e = ap (λ r. f x ++ r) e
    by false e = e

pub any_written_is : (n : Text) (m : Listing) → list_any (λ (e : Entry). is_initialiser (sort_of e.kind)) (in_braces_of m n) ≡ any_written n m.entries
any_written_is n m = any_filter (λ (e : Entry). stands_in_braces n e.within) (λ (e : Entry). is_initialiser (sort_of e.kind)) m.entries

pub stored_is : (n : Text) (m : Listing) → flat_map (λ (e : Entry). stored_by e.kind) (in_braces_of m n) ≡ stored n m.entries
stored_is n m = flat_filter (λ (e : Entry). stands_in_braces n e.within) (λ (e : Entry). stored_by e.kind) m.entries

labels_by : (n : Text) (m : Listing) → memberwise_labels m n ≡ (if has_none m n then None else Some (stored n m.entries))
labels_by n m = ap₂ (λ (b : Bool) (l : List Text). if is_interface m.form || b then None else Some l) (any_written_is n m) (stored_is n m)

pub no_labels : (n : Text) (m : Listing) → has_none m n ≡ true → None ≡ memberwise_labels m n
no_labels n m e = sym (labels_by n m ∙ ap (λ (b : Bool). if b then None else Some (stored n m.entries)) e)

pub some_labels : (n : Text) (m : Listing) (found : List Text) → has_none m n ≡ false → found ≡ stored n m.entries → Some found ≡ memberwise_labels m n
some_labels n m found e f = ap Some f ∙ sym (labels_by n m ∙ ap (λ (b : Bool). if b then None else Some (stored n m.entries)) e)
