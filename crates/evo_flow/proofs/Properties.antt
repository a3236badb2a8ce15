-- The first fault of facts in turn.
use Rattle.std.proofs.Common.{◌≡◌, ℕ, ◌+◌, ◌<◌, List, [], ◌∷◌, ◌++◌, map, drop, length, get_or, Bool, true, false, Option, Some, None, refl, sym, ap, ◌∙◌}
use Rattle.std.specs.List.{filter}
use Rattle.std.proofs.lemmas.List.Elements.{filter-append}
use Rattle.evo_base.specs.declared.key.Key.{Key}
use Rattle.evo_tree.specs.declared.module.SourceFault.{SourceFault}
use Rattle.evo_resolved.specs.declared.declaration.RDecl.{RDecl}
use Rattle.evo_resolved.specs.declared.statement.RBlock.{RBlock}
use Rattle.evo_flow.specs.Flows.{first}
use Rattle.evo_flow.specs.Scenes.{is_stored_of}
use Rattle.evo_flow.specs.Faults.{Due, property}
use Rattle.evo_flow.specs.Verdict.{fact_fault, facts_fault, property_fault}
use Rattle.evo_flow.proofs.Turns.{cut_at}

first_assoc : (o p q : Option SourceFault) → first (first o p) q ≡ first o (first p q)
first_assoc (Some f) p q = refl
first_assoc None p q = refl

pub faults_append : (b : RBlock) (ds es : List Due) → facts_fault b (ds ++ es) ≡ first (facts_fault b ds) (facts_fault b es)
faults_append b [] es = refl
faults_append b (d ∷ ds) es = ap (first (fact_fault b d)) (faults_append b ds es) ∙ sym (first_assoc (fact_fault b d) (facts_fault b ds) (facts_fault b es))

map_append : (xs ys : List RDecl) → map property (xs ++ ys) ≡ map property xs ++ map property ys
map_append [] ys = refl
map_append (x ∷ xs) ys = ap (λ l. property x ∷ l) (map_append xs ys)

-- of a module's own declarations and of those of its import
pub faults_both : (b : RBlock) (k : Key) (xs ys : List RDecl) → facts_fault b (map property (filter (is_stored_of k) (xs ++ ys))) ≡ first (facts_fault b (map property (filter (is_stored_of k) xs))) (facts_fault b (map property (filter (is_stored_of k) ys)))
faults_both b k xs ys =
    ap (λ l. facts_fault b (map property l)) (filter-append (is_stored_of k) xs ys)
    ∙ ap (facts_fault b) (map_append (filter (is_stored_of k) xs) (filter (is_stored_of k) ys))
    ∙ faults_append b (map property (filter (is_stored_of k) xs)) (map property (filter (is_stored_of k) ys))

pub faults_cons : (b : RBlock) (k : Key) (d : RDecl) (ds : List RDecl) → facts_fault b (map property (filter (is_stored_of k) (d ∷ ds))) ≡ first (property_fault b k d) (facts_fault b (map property (filter (is_stored_of k) ds)))
faults_cons b k d ds = go (is_stored_of k d) refl
  where
    go : (s : Bool) → is_stored_of k d ≡ s → facts_fault b (map property (filter (is_stored_of k) (d ∷ ds))) ≡ first (property_fault b k d) (facts_fault b (map property (filter (is_stored_of k) ds)))
    go true e = rw e refl
    go false e = rw e refl

pub step_properties : (b : RBlock) (k : Key) (ds : List RDecl) (i : ℕ) (d : RDecl) (whole one : Option SourceFault) → i < length ds → d ≡ get_or ds i d → whole ≡ facts_fault b (map property (filter (is_stored_of k) (drop i ds))) → one ≡ property_fault b k d → whole ≡ first one (facts_fault b (map property (filter (is_stored_of k) (drop (i + 1) ds))))
step_properties b k ds i d whole one h e w p =
    w ∙ ap (λ l. facts_fault b (map property (filter (is_stored_of k) l))) (cut_at ds i d h e)
    ∙ faults_cons b k d (drop (i + 1) ds)
    ∙ ap (λ o. first o (facts_fault b (map property (filter (is_stored_of k) (drop (i + 1) ds))))) (sym p)
