-- Conformances that are declared, as they are sought among all declarations.
use Rattle.std.proofs.Common.{◌≡◌, ℕ, ◌≤◌, List, [], ◌++◌, length, map, flat_map, take, Bool, true, false, sym, ap, ap₂, ◌∙◌, if◌then◌else◌}
use Rattle.std.proofs.lemmas.List.{take_all}
use Rattle.std.specs.Str.{bytes_eq}
use Rattle.evo_base.specs.declared.key.Key.{Key}
use Rattle.evo_declarations.specs.Groups.{numbers_of}
use Rattle.evo_members.specs.Texts.{base_of}
use Rattle.evo_members.specs.Conforming.{conforms_by, conformed_by, conformed_at}
use Rattle.evo_names.specs.Listed.{World, Declaration, declarations}
use Rattle.evo_names.specs.Heads.{conformances, declares, extends, protocols_named}
use Rattle.evo_members.proofs.Bases.{other_declares, other_extends}
use Rattle.evo_members.proofs.Groups.{flat_by_group, flat_filter}

other_conforms : (b : Bool) (k : Key) (d : Declaration) → bytes_eq k.base (base_of d) ≡ false → conforms_by b k d ≡ false
other_conforms true k d e = other_declares k d d.entry.kind e
other_conforms false k d e = other_extends k d d.entry.kind e

no_conformances : (b : Bool) (k : Key) (d : Declaration) → bytes_eq k.base (base_of d) ≡ false → conformed_by b k d ≡ []
no_conformances b k d e = ap (λ (t : Bool). if t then protocols_named d else []) (other_conforms b k d e)

pub conformed_group : (w : World) (b : Bool) (k : Key) (numbers : List ℕ) (i : ℕ) → numbers ≡ numbers_of k.base (map base_of (declarations w)) → length numbers ≤ i → flat_map (conformed_at w b k) (take i numbers) ≡ flat_map (conformed_by b k) (declarations w)
conformed_group w b k numbers i is all =
    ap (flat_map (conformed_at w b k)) (take_all i numbers all ∙ is) ∙ sym (flat_by_group (conformed_by b k) base_of k.base (no_conformances b k) (declarations w))

pub conformances_are : (w : World) (k : Key) (none first all : List Key) → none ≡ [] → first ≡ none ++ flat_map (conformed_by true k) (declarations w) → all ≡ first ++ flat_map (conformed_by false k) (declarations w) → all ≡ conformances w k
unfolding conformances
conformances_are w k none first all is one two =
    two
    ∙ ap (λ (ks : List Key). ks ++ flat_map (conformed_by false k) (declarations w)) (one ∙ ap (λ (ks : List Key). ks ++ flat_map (conformed_by true k) (declarations w)) is)
    ∙ sym (ap₂ (λ (xs ys : List Key). xs ++ ys) (flat_filter protocols_named (λ (d : Declaration). declares k d d.entry.kind) (declarations w)) (flat_filter protocols_named (λ (d : Declaration). extends k d d.entry.kind) (declarations w)))
