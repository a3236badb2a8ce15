-- The item past a limit is a fault, and there is no other.
use Rattle.std.proofs.Common.{◌≡◌, ◌≤◌, ℕ, zero, suc, List, [], ◌∷◌, length, arith, map, Option, Some, None, slice_get, refl, sym, ap, ap₂, subst, ◌∙◌}
use Rattle.std.specs.Option.{option_map, option_or}
use Rattle.evo_base.specs.declared.place.Place.{Place}
use Rattle.evo_base.specs.declared.fault_kind.FaultKind.TheVariants as kind
use Rattle.evo_tree.specs.declared.name.Identifier.{Identifier}
use Rattle.evo_tree.specs.declared.declaration.GenericParameter.{GenericParameter}
use Rattle.evo_tree.specs.declared.declaration.Parameter.{Parameter}
use Rattle.evo_tree.specs.declared.declaration.Payload.{Payload}
use Rattle.evo_tree.specs.declared.declaration.Header.{Header}
use Rattle.evo_tree.specs.declared.declaration.DeclKind.TheOpen as de
use Rattle.evo_names.specs.Listed.{Kind, Entry, Listing, World, Declaration, header_of, generics_of, own_declarations}
use Rattle.evo_names.specs.Heads.{first_some}
use Rattle.evo_names.specs.Faults.{IsFault, declarations, parameters, generic_parameters, payload, payload_place, most_declarations}
use Rattle.std.proofs.lemmas.Option.{slice_get-map}
use Rattle.evo_declarations.specs.declared.listed.Listing.{Listing as Borrowed}
use Rattle.evo_declarations.specs.Views.{entry_view, listing_view}
use Rattle.evo_declarations.specs.declared.listed.Listed.{Listed}
use Rattle.evo_declarations.specs.Limits.{listed_place, behind_most, first_past, in_header, in_payload, in_declaration, in_entry, past_limit, PastLimit}

-- an entry of the list is a declaration in its world
at_of : (w : World) (es : List Entry) (i : ℕ) (e : Entry) → slice_get es i ≡ Some e → slice_get (map (λ (x : Entry). let d : Declaration = record { world = w; entry = x } in d) es) i ≡ Some (record { world = w; entry = e })
at_of w [] i e is = absurd cc
at_of w (x ∷ es) zero e is = ap (λ (o : Option Entry). option_map (λ (y : Entry). let d : Declaration = record { world = w; entry = y } in d) o) is
at_of w (x ∷ es) (suc i) e is = at_of w es i e is

entry_of : (w : World) (es : List Entry) (i : ℕ) (d : Declaration) → slice_get (map (λ (x : Entry). let d : Declaration = record { world = w; entry = x } in d) es) i ≡ Some d → slice_get es i ≡ Some d.entry
entry_of w [] i d is = absurd cc
entry_of w (x ∷ es) zero d is = ap (λ (o : Option Declaration). option_map (λ (y : Declaration). y.entry) o) is
entry_of w (x ∷ es) (suc i) d is = entry_of w es i d is

-- what is first in a list is somewhere in it
record Found (es : List Entry) (p : Place) : Type 0 where
  number : ℕ
  entry : Entry
  at : slice_get es number ≡ Some entry
  here : in_entry entry ≡ Some p

found_by : (x : Entry) (es : List Entry) (p : Place) (rest : first_some in_entry es ≡ Some p → Found es p) (o : Option Place) → in_entry x ≡ o → option_or o (first_some in_entry es) ≡ Some p → Found (x ∷ es) p
found_by x es p rest (Some q) is e = record { number = 0; entry = x; at = refl; here = is ∙ e }
found_by x es p rest None is e = let r = rest e in record { number = suc r.number; entry = r.entry; at = r.at; here = r.here }

found : (es : List Entry) (p : Place) → first_some in_entry es ≡ Some p → Found es p
found [] p e = absurd cc
found (x ∷ es) p e = found_by x es p (found es p) (in_entry x) refl e

-- where nothing is first, nothing is there
nowhere_by : (x : Entry) (es : List Entry) (e : Entry) (rest : (i : ℕ) → first_some in_entry es ≡ None → slice_get es i ≡ Some e → in_entry e ≡ None) (o : Option Place) → in_entry x ≡ o → option_or o (first_some in_entry es) ≡ None → (i : ℕ) → slice_get (x ∷ es) i ≡ Some e → in_entry e ≡ None
nowhere_by x es e rest (Some q) is none i at = absurd cc
nowhere_by x es e rest None is none zero at = let same : x ≡ e = cc in ap in_entry (sym same) ∙ is
nowhere_by x es e rest None is none (suc i) at = rest i none at

nowhere : (es : List Entry) (e : Entry) (i : ℕ) → first_some in_entry es ≡ None → slice_get es i ≡ Some e → in_entry e ≡ None
nowhere [] e i none at = absurd cc
nowhere (x ∷ es) e i none at = nowhere_by x es e (nowhere es e) (in_entry x) refl none i at

module _ (w : World) where
  in_parameters : (i : ℕ) (d : Declaration) (h : Header) (p : Place) → slice_get (own_declarations w) i ≡ Some d → header_of d.entry.kind ≡ Some h → generics_of d.entry.kind ≡ h.generics → in_header h ≡ Some p → IsFault w kind.TooMany p
  in_parameters i d h p at has generics e = by (slice_get h.parameters 16) refl e
    where
      second : (o : Option GenericParameter) → slice_get h.generics 4 ≡ o → option_map (λ (g : GenericParameter). g.name.place) o ≡ Some p → IsFault w kind.TooMany p
      second None is e = absurd cc
      second (Some g) is e =
          let place : g.name.place ≡ p = cc in
          let here : slice_get (generics_of d.entry.kind) 4 ≡ Some g = ap (λ (l : List GenericParameter). slice_get l 4) generics ∙ is in
          subst (IsFault w kind.TooMany) place (generic_parameters i d g at here)

      by : (o : Option Parameter) → slice_get h.parameters 16 ≡ o → option_or (option_map (λ (q : Parameter). q.place) o) (option_map (λ (g : GenericParameter). g.name.place) (slice_get h.generics 4)) ≡ Some p → IsFault w kind.TooMany p
      by (Some q) is e = let place : q.place ≡ p = cc in subst (IsFault w kind.TooMany) place (parameters i d h q at has is)
      by None is e = second (slice_get h.generics 4) refl e

  in_values : (i : ℕ) (d : Declaration) (c : Identifier) (ps : List Payload) (p : Place) → slice_get (own_declarations w) i ≡ Some d → d.entry.kind ≡ de.Case c ps → in_payload ps ≡ Some p → IsFault w kind.TooMany p
  in_values i d c ps p at is e = by (slice_get ps 16) refl e
    where
      by : (o : Option Payload) → slice_get ps 16 ≡ o → option_map payload_place o ≡ Some p → IsFault w kind.TooMany p
      by None is' e = absurd cc
      by (Some q) is' e = let place : payload_place q ≡ p = cc in subst (IsFault w kind.TooMany) place (payload i d q at is is')

  in_kind : (i : ℕ) (d : Declaration) (k : Kind) (p : Place) → slice_get (own_declarations w) i ≡ Some d → d.entry.kind ≡ k → in_declaration k ≡ Some p → IsFault w kind.TooMany p
  in_kind i d (de.Function n h b) p at is e = in_parameters i d h p at (ap header_of is) (ap generics_of is) e
  in_kind i d (de.Initialiser h b) p at is e = in_parameters i d h p at (ap header_of is) (ap generics_of is) e
  in_kind i d (de.Property k n t a) p at is e = absurd cc
  in_kind i d (de.TypeAlias n t) p at is e = absurd cc
  in_kind i d (de.AssociatedType n ts t) p at is e = absurd cc
  in_kind i d (de.Case c ps) p at is e = in_values i d c ps p at is e
  in_kind i d (de.Nominal k n ts ds) p at is e = absurd cc
  in_kind i d (de.Extension t ts ds) p at is e = absurd cc

  some : (p : Place) → past_limit w.own ≡ Some p → IsFault w kind.TooMany p
  unfolding past_limit
  some p e = by (slice_get w.own.entries most_declarations) refl e
    where
      by : (o : Option Entry) → slice_get w.own.entries most_declarations ≡ o → option_or (option_map (λ (x : Entry). x.place) o) (first_some in_entry w.own.entries) ≡ Some p → IsFault w kind.TooMany p
      by (Some x) is e = let place : x.place ≡ p = cc in subst (IsFault w kind.TooMany) place (declarations (record { world = w; entry = x }) (at_of w w.own.entries most_declarations x is))
      by None is e = let r = found w.own.entries p e in in_kind r.number (record { world = w; entry = r.entry }) r.entry.kind p (at_of w w.own.entries r.number r.entry r.at) refl r.here

-- ---- where none is answered

no_some : (o : Option Place) (x : Place) → o ≡ Some x → o ≡ None → ⊥
no_some o x e f = absurd cc

header_kind : (k : Kind) (h : Header) → header_of k ≡ Some h → in_declaration k ≡ in_header h
header_kind (de.Function n h b) g e = let same : h ≡ g = cc in ap in_header same
header_kind (de.Initialiser h b) g e = let same : h ≡ g = cc in ap in_header same
header_kind (de.Property k n t a) g e = absurd cc
header_kind (de.TypeAlias n t) g e = absurd cc
header_kind (de.AssociatedType n ts t) g e = absurd cc
header_kind (de.Case c ps) g e = absurd cc
header_kind (de.Nominal k n ts ds) g e = absurd cc
header_kind (de.Extension t ts ds) g e = absurd cc

no_parameter : (h : Header) (q : Parameter) → slice_get h.parameters 16 ≡ Some q → in_header h ≡ None → ⊥
no_parameter h q is none =
    let here : in_header h ≡ Some q.place = ap (λ (o : Option Parameter). option_or (option_map (λ (r : Parameter). r.place) o) (option_map (λ (g : GenericParameter). g.name.place) (slice_get h.generics 4))) is in
    no_some (in_header h) q.place here none

no_generic : (h : Header) (g : GenericParameter) → slice_get h.generics 4 ≡ Some g → in_header h ≡ None → ⊥
no_generic h g is none = by (slice_get h.parameters 16) refl
  where
    by : (o : Option Parameter) → slice_get h.parameters 16 ≡ o → ⊥
    by (Some q) is' = no_parameter h q is' none
    by None is' =
        let here : in_header h ≡ option_map (λ (x : GenericParameter). x.name.place) (slice_get h.generics 4) = ap (λ (o : Option Parameter). option_or (option_map (λ (r : Parameter). r.place) o) (option_map (λ (x : GenericParameter). x.name.place) (slice_get h.generics 4))) is' in
        let there : option_map (λ (x : GenericParameter). x.name.place) (slice_get h.generics 4) ≡ Some g.name.place = ap (option_map (λ (x : GenericParameter). x.name.place)) is in
        absurd (let both = sym there ∙ sym here ∙ none in cc)

no_generic_of : (k : Kind) (g : GenericParameter) → slice_get (generics_of k) 4 ≡ Some g → in_declaration k ≡ None → ⊥
no_generic_of (de.Function n h b) g is none = no_generic h g is none
no_generic_of (de.Initialiser h b) g is none = no_generic h g is none
no_generic_of (de.Property k n t a) g is none = absurd cc
no_generic_of (de.TypeAlias n t) g is none = absurd cc
no_generic_of (de.AssociatedType n ts t) g is none = absurd cc
no_generic_of (de.Case c ps) g is none = absurd cc
no_generic_of (de.Nominal k n ts ds) g is none = absurd cc
no_generic_of (de.Extension t ts ds) g is none = absurd cc

no_value : (ps : List Payload) (q : Payload) → slice_get ps 16 ≡ Some q → in_payload ps ≡ None → ⊥
no_value ps q is none = let there = ap (option_map payload_place) is in absurd (let both = sym there ∙ none in cc)

-- neither the list is too long, nor is something in it
record Within (w : World) : Type 0 where
  count : (e : Entry) → slice_get w.own.entries most_declarations ≡ Some e → ⊥
  each : (i : ℕ) (d : Declaration) → slice_get (own_declarations w) i ≡ Some d → in_declaration d.entry.kind ≡ None

within : (w : World) → past_limit w.own ≡ None → Within w
unfolding past_limit
within w none = by (slice_get w.own.entries most_declarations) refl none
  where
    by : (o : Option Entry) → slice_get w.own.entries most_declarations ≡ o → option_or (option_map (λ (x : Entry). x.place) o) (first_some in_entry w.own.entries) ≡ None → Within w
    by (Some x) is none = absurd (no_some (Some x.place) x.place refl none)
    by None is none = record { count = λ e at. absurd (let both = sym is ∙ at in cc); each = λ i d at. nowhere w.own.entries d.entry i none (entry_of w w.own.entries i d at) }

no_fault : (w : World) (p : Place) → Within w → IsFault w kind.TooMany p → ⊥
no_fault w p h (declarations d at) = h.count d.entry (entry_of w w.own.entries most_declarations d at)
no_fault w p h (parameters i d g q at has is) = no_parameter g q is (sym (header_kind d.entry.kind g has) ∙ h.each i d at)
no_fault w p h (generic_parameters i d g at is) = no_generic_of d.entry.kind g is (h.each i d at)
no_fault w p h (payload {c} {ps} i d q at is here) = no_value ps q here (sym (ap in_declaration is) ∙ h.each i d at)

no_more : {A : Type 0} (xs : List A) (n : ℕ) → ((x : A) → slice_get xs n ≡ Some x → ⊥) → length xs ≤ n
no_more [] n none = omega arith
no_more (x ∷ xs) zero none = absurd (none x refl)
no_more (x ∷ xs) (suc n) none = let le = no_more xs n none in omega (arith, le)

-- a declaration of a module that is past no limit has few generic parameters
pub few_generics : (m : Listing) (i : ℕ) (e : Entry) → past_limit m ≡ None → slice_get m.entries i ≡ Some e → length (generics_of e.kind) ≤ 4
few_generics m i e none at =
    let w : World = record { own = m; imported = None } in
    no_more (generics_of e.kind) 4 (λ g is. no_generic_of e.kind g is ((within w none).each i (record { world = w; entry = e }) (at_of w m.entries i e at)))

pub past_limits : PastLimit
past_limits = record { some = some; none = λ w p none. no_fault w p (within w none) }

-- ---- what the code looks at

abbrev either : Option Place → Option Place → Option Place
either o rest = option_or o rest

two_maps : (o : Option Listed) → option_map listed_place o ≡ option_map (λ (y : Entry). y.place) (option_map entry_view o)
two_maps None = refl
two_maps (Some l) = refl

pub of_listed : (l : Borrowed) (o rest : Option Place) → o ≡ behind_most l.entries.items → rest ≡ first_past l.entries.items → either o rest ≡ past_limit (listing_view l)
unfolding past_limit
of_listed l o rest e f =
    let front = e ∙ two_maps (slice_get l.entries.items most_declarations) ∙ ap (option_map (λ (y : Entry). y.place)) (sym (slice_get-map entry_view l.entries.items most_declarations)) in
    ap₂ either front f
