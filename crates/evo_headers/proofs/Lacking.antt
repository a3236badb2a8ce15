-- What a part of a header lacks, the header lacks.
use Rattle.std.proofs.Common.{◌≡◌, ℕ, ◌<◌, List, [], ◌∷◌, ◌++◌, length, get_or, flat_map, map, sym, subst}
use Rattle.evo_tree.specs.declared.name.TypeName.{TypeName}
use Rattle.evo_tree.specs.declared.declaration.GenericParameter.{GenericParameter}
use Rattle.evo_tree.specs.declared.declaration.Requirement.{Requirement}
use Rattle.evo_tree.specs.declared.declaration.Header.{Header}
use Rattle.evo_resolved.specs.declared.declaration.RRequirement.{RRequirement}
use Rattle.evo_names.specs.Written.{Scope}
use Rattle.evo_names.specs.Resolved.{Pairs, IsRequirement, of_generic, of_where, written_requirements}
use Rattle.evo_names.specs.Faults.{header_protocols, header_types, requirement_protocols, requirement_types}
use Rattle.evo_tree.specs.declared.declaration.Parameter.{Parameter}
use Rattle.evo_names.specs.Listed.{list_of}
use Rattle.evo_headers.specs.Headers.{parameter_type}
use Rattle.evo_headers.specs.Added.{Adds}
use Rattle.evo_headers.specs.Unresolved.{One, IsVoid, IsNoProtocol, Lacks, no_type, no_protocol}
use Rattle.evo_headers.proofs.Lists.{one_here, one_alone, one_flat, one_left, one_right, one_of_none, adds_both, adds_all}

module _ {s : Scope} where
  pub protocol_at : {ts : List TypeName} (ps : List TypeName) (i : ℕ) (p : TypeName) → i < length ps → p ≡ get_or ps i p → Lacks s ts (p ∷ []) → Lacks s ts ps
  protocol_at ps i p lt e (no_type o) = no_type o
  protocol_at ps i p lt e (no_protocol o) = no_protocol (one_here (IsNoProtocol s.home) ps i p lt e (one_alone o))

  pub generic_at : (gs : List GenericParameter) (i : ℕ) (g : GenericParameter) → i < length gs → g ≡ get_or gs i g → Lacks s [] g.protocols → Lacks s [] (flat_map (λ (g : GenericParameter). g.protocols) gs)
  generic_at gs i g lt e (no_type o) = no_type o
  generic_at gs i g lt e (no_protocol o) = no_protocol (one_flat (IsNoProtocol s.home) (λ (g : GenericParameter). g.protocols) gs i g lt e o)

  pub requirement_at : (rs : List Requirement) (i : ℕ) (r : Requirement) → i < length rs → r ≡ get_or rs i r → Lacks s (requirement_types r) (requirement_protocols r) → Lacks s (flat_map requirement_types rs) (flat_map requirement_protocols rs)
  requirement_at rs i r lt e (no_type o) = no_type (one_flat (IsVoid s) requirement_types rs i r lt e o)
  requirement_at rs i r lt e (no_protocol o) = no_protocol (one_flat (IsNoProtocol s.home) requirement_protocols rs i r lt e o)

  pub of_generics : (h : Header) (gs : List GenericParameter) → gs ≡ h.generics → Lacks s [] (flat_map (λ (g : GenericParameter). g.protocols) gs) → Lacks s (flat_map requirement_types h.requirements) (header_protocols h)
  of_generics h gs e (no_type o) = one_of_none o
  of_generics h gs e (no_protocol o) = no_protocol (one_left (flat_map requirement_protocols h.requirements) (subst (λ (gs : List GenericParameter). One (IsNoProtocol s.home) (flat_map (λ (g : GenericParameter). g.protocols) gs)) e o))

  pub of_requirements : (h : Header) (rs : List Requirement) → rs ≡ h.requirements → Lacks s (flat_map requirement_types rs) (flat_map requirement_protocols rs) → Lacks s (flat_map requirement_types h.requirements) (header_protocols h)
  of_requirements h rs e (no_type o) = no_type (subst (λ (rs : List Requirement). One (IsVoid s) (flat_map requirement_types rs)) e o)
  of_requirements h rs e (no_protocol o) = no_protocol (one_right (flat_map (λ (g : GenericParameter). g.protocols) h.generics) (subst (λ (rs : List Requirement). One (IsNoProtocol s.home) (flat_map requirement_protocols rs)) e o))

  pub requirements_all : (h : Header) (gs : List GenericParameter) (rs : List Requirement) (a b c out : List RRequirement) → gs ≡ h.generics → rs ≡ h.requirements → a ≡ [] → out ≡ c → Adds (IsRequirement s) (flat_map of_generic gs) a b → Adds (IsRequirement s) (flat_map of_where rs) b c → Pairs (IsRequirement s) (written_requirements h) out
  requirements_all h gs rs a b c out e f n o p q =
      let all = adds_all (IsRequirement s) (flat_map of_generic gs ++ flat_map of_where rs) a c (adds_both (IsRequirement s) (flat_map of_generic gs) (flat_map of_where rs) a b c p q) n in
      let second = subst (λ (gs : List GenericParameter). Pairs (IsRequirement s) (flat_map of_generic gs ++ flat_map of_where rs) c) e all in
      let third = subst (λ (rs : List Requirement). Pairs (IsRequirement s) (flat_map of_generic h.generics ++ flat_map of_where rs) c) f second in
      subst (λ ys. Pairs (IsRequirement s) (written_requirements h) ys) (sym o) third

  pub header_requirements : (h : Header) → Lacks s (flat_map requirement_types h.requirements) (header_protocols h) → Lacks s (header_types h) (header_protocols h)
  header_requirements h (no_type o) = no_type (one_right (map parameter_type h.parameters ++ list_of h.result) o)
  header_requirements h (no_protocol o) = no_protocol o

  pub header_parameters : (h : Header) (ps : List Parameter) → ps ≡ h.parameters → One (IsVoid s) (map parameter_type ps) → Lacks s (header_types h) (header_protocols h)
  header_parameters h ps e o = no_type (one_left (flat_map requirement_types h.requirements) (one_left (list_of h.result) (subst (λ (ps : List Parameter). One (IsVoid s) (map parameter_type ps)) e o)))

  pub header_result : (h : Header) → One (IsVoid s) (list_of h.result) → Lacks s (header_types h) (header_protocols h)
  header_result h o = no_type (one_left (flat_map requirement_types h.requirements) (one_right (map parameter_type h.parameters) o))
