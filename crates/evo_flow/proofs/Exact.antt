-- The verdict is exact.
use Rattle.std.proofs.Common.{◌≡◌, List, [], ◌∷◌, Bool, true, false, ◌||◌, ◌&&◌, Option, Some, None, refl, sym, ap, ◌∙◌, subst, ◌⊎◌, inl, inr, if◌then◌else◌}
use Rattle.evo_base.specs.declared.place.Place.{Place}
use Rattle.evo_base.specs.declared.fault_kind.FaultKind.TheVariants as kind
use Rattle.evo_tree.specs.declared.module.SourceFault.{SourceFault}
use Rattle.evo_resolved.specs.declared.statement.RBlock.{RBlock, out-RBlock}
use Rattle.evo_resolved.specs.declared.body.RBody.{RBody}
use Rattle.evo_flow.specs.declared.flow.Fact.TheVariants as fact
use Rattle.evo_flow.specs.Way.{Step, Exit, next}
use Rattle.evo_flow.specs.Act.{act, fault}
use Rattle.evo_flow.specs.Path.{Path, behind, On}
use Rattle.evo_flow.specs.Trees.{block_way}
use Rattle.evo_flow.specs.Types.{has_value}
use Rattle.evo_flow.specs.Text.{outside, block_faults, first_of}
use Rattle.evo_flow.specs.Flows.{first, flow, has}
use Rattle.evo_flow.specs.Laws.{Comes, Agrees}
use Rattle.evo_flow.specs.Scenes.{Scene}
use Rattle.evo_flow.specs.Faults.{Among, Due, facts, whole, BlockFault, FlowFault}
use Rattle.evo_flow.specs.Verdict.{return_fault, fact_fault, facts_fault, end_fault, path_fault, verdict, body_verdict}
use Rattle.evo_flow.proofs.States.{first_cases, first_none}
use Rattle.evo_flow.proofs.Agree.{agrees}

all : (b : RBody) (k : RBlock) → Agrees (act fact.Reached b.owner) (block_way k)
all b k = agrees (act fact.Reached b.owner) (block_way k)

is_fault : (c : Scene) (b : RBody) (k : RBlock) (f g : SourceFault) → f ≡ g → BlockFault c b k g → BlockFault c b k f
is_fault c b k f g e x = subst (λ f. BlockFault c b k f) (sym e) x

-- ---- the text

first_among : (fs : List SourceFault) (f : SourceFault) → first_of fs ≡ Some f → Among f fs
first_among [] f e = absurd (cc e)
first_among (g ∷ fs) f e = subst (λ x. Among x (g ∷ fs)) (cc e) Among.here

none_among : (fs : List SourceFault) (f : SourceFault) → first_of fs ≡ None → Among f fs → ⊥
none_among [] f e a = elim a [ ]
none_among (g ∷ fs) f e a = cc e

-- ---- the end

return_is : (due u d : Bool) (p : Place) (f : SourceFault) → (if due && (u || d) then Some (fault kind.MissingReturn p) else None) ≡ Some f → (due ≡ true) × ((u ≡ true) ⊎ (d ≡ true)) × (f ≡ fault kind.MissingReturn p)
return_is true true d p f e = (refl, inl refl, cc e)
return_is true false true p f e = (refl, inr refl, cc e)
return_is true false false p f e = absurd (cc e)
return_is false u d p f e = absurd (cc e)

return_sound : (c : Scene) (b : RBody) (k : RBlock) (f : SourceFault) → end_fault b k ≡ Some f → BlockFault c b k f
return_sound c b k f e =
    let o = (flow (act fact.Reached b.owner) (block_way k)).undone in
    let r = return_is (has_value b.scope.result) o.next.undone o.next.done (out-RBlock k).end f e in
    let m : (t : Bool) × Comes (act fact.Reached b.owner) (block_way k) false next t = elim r.1 [ inl h ↦ (false, (all b k).sound false false next h) | inr h ↦ (true, (all b k).sound false true next h) ] in
    is_fault c b k f (fault kind.MissingReturn (out-RBlock k).end) r.2 (BlockFault.missing_return r.0 (m.1).is)

return_none : (u d : Bool) (p : Place) (t : Bool) → has (record { undone = u; done = d }) t ≡ true → (if true && (u || d) then Some (fault kind.MissingReturn p) else None) ≡ None → ⊥
return_none true d p t h e = cc e
return_none false true p t h e = cc e
return_none false false p true h e = cc h
return_none false false p false h e = cc h

return_complete : (b : RBody) (k : RBlock) {p : List Step} → has_value b.scope.result ≡ true → Path (block_way k) p next → end_fault b k ≡ None → ⊥
return_complete b k {p} r q e =
    let o = (flow (act fact.Reached b.owner) (block_way k)).undone in
    let h = (all b k).complete false q (λ x. cc x) in
    return_none o.next.undone o.next.done (out-RBlock k).end (behind (act fact.Reached b.owner) false p) h (subst (λ r. (if r && (o.next.undone || o.next.done) then Some (fault kind.MissingReturn (out-RBlock k).end) else None) ≡ None) r e)

-- ---- facts

facts_sound : (c : Scene) (b : RBody) (k : RBlock) (ds : List Due) (f : SourceFault) → ((d : Due) → Among d ds → Among d (facts c b k)) → facts_fault k ds ≡ Some f → BlockFault c b k f
facts_sound c b k [] f within e = absurd (cc e)
facts_sound c b k (d ∷ ds) f within e =
    elim (first_cases (fact_fault k d) (facts_fault k ds) f e) [
      | inl h ↦ (let m = (agrees (act d.0 d.1) (whole k)).fault false f h in BlockFault.on_path d (within d Among.here) m.is m.on)
      | inr h ↦ facts_sound c b k ds f (λ y a. within y (Among.later a)) h
    ]

facts_complete : (k : RBlock) (ds : List Due) (d : Due) {f : SourceFault} {p : List Step} {e : Exit} → Among d ds → Path (whole k) p e → On (act d.0 d.1) false p f → facts_fault k ds ≡ None → ⊥
facts_complete k [] d a q o h = elim a [ ]
facts_complete k (y ∷ ds) d Among.here q o h = (agrees (act y.0 y.1) (whole k)).clean false q o (first_none (fact_fault k y) (facts_fault k ds) h).0
facts_complete k (y ∷ ds) d (Among.later a) q o h = facts_complete k ds d a q o (first_none (fact_fault k y) (facts_fault k ds) h).1

-- ---- all

sound_in : (c : Scene) (b : RBody) (k : RBlock) (f : SourceFault) → verdict c b k ≡ Some f → BlockFault c b k f
sound_in c b k f e =
    elim (first_cases (first_of (block_faults c k outside)) (path_fault c b k) f e) [
      | inl h ↦ BlockFault.in_text (first_among (block_faults c k outside) f h)
      | inr h ↦ elim (first_cases (end_fault b k) (facts_fault k (facts c b k)) f h) [
        | inl h ↦ return_sound c b k f h
        | inr h ↦ facts_sound c b k (facts c b k) f (λ d a. a) h
      ]
    ]

complete_in : (c : Scene) (b : RBody) (k : RBlock) {f : SourceFault} → verdict c b k ≡ None → BlockFault c b k f → ⊥
complete_in c b k {f} e (BlockFault.in_text a) = none_among (block_faults c k outside) f (first_none (first_of (block_faults c k outside)) (path_fault c b k) e).0 a
complete_in c b k e (BlockFault.missing_return r q) =
    let m = (first_none (first_of (block_faults c k outside)) (path_fault c b k) e).1 in
    return_complete b k r q (first_none (end_fault b k) (facts_fault k (facts c b k)) m).0
complete_in c b k e (BlockFault.on_path d a q o) =
    let m = (first_none (first_of (block_faults c k outside)) (path_fault c b k) e).1 in
    facts_complete k (facts c b k) d a q o (first_none (end_fault b k) (facts_fault k (facts c b k)) m).1

sound_by : (c : Scene) (b : RBody) (o : Option RBlock) (f : SourceFault) → b.block ≡ o → body_verdict c b o ≡ Some f → FlowFault c b f
sound_by c b (Some k) f s e = (k, s, sound_in c b k f e)
sound_by c b None f s e = absurd (cc e)

pub sound : (c : Scene) (b : RBody) (f : SourceFault) → body_verdict c b b.block ≡ Some f → FlowFault c b f
sound c b f e = sound_by c b b.block f refl e

pub complete : (c : Scene) (b : RBody) → body_verdict c b b.block ≡ None → (f : SourceFault) → FlowFault c b f → ⊥
complete c b e f x = complete_in c b x.0 (subst (λ o. body_verdict c b o ≡ None) x.1 e) x.2
