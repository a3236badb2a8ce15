-- Both meanings find the same bodies.
use Rattle.std.proofs.Common.{◌≡◌, Bool, true, false, ◌&&◌, List, [], ◌∷◌, map, Option, Some, None, if◌then◌else◌, refl, sym, ap, subst, bytes_eq}
use Rattle.std.specs.Option.{option_map, option_or, option_and_then}
use Rattle.std.specs.Cmp.Lexicographic.{bytes_decides}
use Rattle.evo_base.specs.declared.key.Key.{Key}
use Rattle.evo_resolved.specs.Named.{body_key, is_body}
use Rattle.evo_resolved.specs.declared.declaration.Standing.TheVariants as standing
use Rattle.evo_names.specs.Listed.{Text}
use Rattle.evo_first_form.specs.declared.Function.{Function}
use Rattle.evo_first_form.specs.declared.Declaration.{Declaration}
use Rattle.evo_first_form.specs.declared.Print.{Print}
use Rattle.evo_first_form.specs.declared.Term.{Term}
use Rattle.evo_first_form.specs.Copies.{copied_body}
use Rattle.evo_first_code.specs.Meaning as first
use Rattle.evo_first_code.specs.Meaning.{Program, Body}
use Rattle.evo_meaning.specs.Keys.{same_key, look_up}
use Rattle.evo_meaning.specs.Programs.{Side, client_side, library_side, Implementation, implementation_by, static_implementation}
use Rattle.evo_meaning.proofs.SameKey.{one_key, same_key_refl}
use Rattle.evo_first_meaning.specs.Resolved.{function_key, returning, function_body, top_body, mixed_program}

abbrev pub side_of : first.Side → Side
side_of first.client_side = client_side
side_of first.library_side = library_side

abbrev pub implementation : Text → Body → Implementation
implementation library b = record { side = side_of b.side; standing = standing.TopLevel; block = returning library b.term }

same_test : (a b : Bool) → (a ≡ true → b ≡ true) → (b ≡ true → a ≡ true) → a ≡ b
same_test true true f g = refl
same_test true false f g = sym (f refl)
same_test false true f g = g refl
same_test false false f g = refl

-- keys of functions are the same where the names are
key_test : (library a b : Text) → same_key (function_key library a) (function_key library b) ≡ bytes_eq b a
key_test library a b =
    same_test (same_key (function_key library a) (function_key library b)) (bytes_eq b a)
    (λ e. (bytes_decides b a).1 (sym (ap (λ (k : Key). k.base) (one_key (function_key library a) (function_key library b) e))))
    (λ e. subst (λ c. same_key (function_key library a) (function_key library c) ≡ true) (sym ((bytes_decides b a).0 e)) (same_key_refl (function_key library a)))

found_new : (library : Text) (fs : List Function) (name : Text) → option_and_then (implementation_by library_side) (look_up body_key is_body (map (λ (f : Function). function_body library f.name (Some f.body)) fs) (function_key library name)) ≡ option_map (implementation library) (first.on_library (first.written_body fs name))
unfolding look_up
found_new library [] name = refl
found_new library (f ∷ fs) name = rw (key_test library f.name name) (at (bytes_eq name f.name) (found_new library fs name))
  where
    at : (b : Bool) → option_and_then (implementation_by library_side) (look_up body_key is_body (map (λ (f : Function). function_body library f.name (Some f.body)) fs) (function_key library name)) ≡ option_map (implementation library) (first.on_library (first.written_body fs name)) → option_and_then (implementation_by library_side) (if b then Some (function_body library f.name (Some f.body)) else look_up body_key is_body (map (λ (f : Function). function_body library f.name (Some f.body)) fs) (function_key library name)) ≡ option_map (implementation library) (first.on_library (if b then Some f.body else first.written_body fs name))
    at true h = refl
    at false h = h

-- a body that clients copied
abbrev copied : Text → Term → Implementation
copied library t = implementation library (record { side = first.client_side; term = t })

found_old : (library : Text) (ds : List Declaration) (name : Text) → option_and_then (implementation_by client_side) (look_up body_key is_body (map (λ (d : Declaration). function_body library d.name d.body) ds) (function_key library name)) ≡ option_map (copied library) (copied_body ds name)
unfolding look_up
found_old library [] name = refl
found_old library (d ∷ ds) name = rw (key_test library d.name name) (at (bytes_eq name d.name) (found_old library ds name))
  where
    shown : (o : Option Term) → option_map (λ block. record { side = client_side; standing = standing.TopLevel; block = block }) (option_map (returning library) o) ≡ option_map (copied library) o
    shown None = refl
    shown (Some t) = refl

    at : (b : Bool) → option_and_then (implementation_by client_side) (look_up body_key is_body (map (λ (d : Declaration). function_body library d.name d.body) ds) (function_key library name)) ≡ option_map (copied library) (copied_body ds name) → option_and_then (implementation_by client_side) (if b then Some (function_body library d.name d.body) else look_up body_key is_body (map (λ (d : Declaration). function_body library d.name d.body) ds) (function_key library name)) ≡ option_map (copied library) (if b then d.body else copied_body ds name)
    at true h = shown d.body
    at false h = h

never : (b : Bool) → (b && false) ≡ false
never true = refl
never false = refl

-- the client declares no function
not_clients : (library : Text) (prints : List Print) (name : Text) → look_up body_key is_body (top_body library prints ∷ []) (function_key library name) ≡ None
unfolding look_up same_key
not_clients library prints name = rw (never _) refl

joined : (library : Text) (o : Option Term) (b : Option Body) → option_or (option_map (copied library) o) (option_map (implementation library) b) ≡ option_map (implementation library) (first.on_client o b)
joined library None b = refl
joined library (Some t) b = refl

pub found : (library : Text) (p : Program) (prints : List Print) (side : first.Side) (name : Text) → static_implementation (mixed_program library p prints) (side_of side) (function_key library name) ≡ option_map (implementation library) (first.body_of p side name)
found library p prints first.client_side name =
    rw (not_clients library prints name, found_old library p.old name, found_new library p.new name) (joined library (copied_body p.old name) (first.on_library (first.written_body p.new name)))
found library p prints first.library_side name = found_new library p.new name
