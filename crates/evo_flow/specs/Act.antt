-- What an initialiser has to bring about before `self` is used and before it ends, and what a step has to do with it.
use Rattle.std.specs.Prelude.{Bool, if◌then◌else◌}
use Rattle.evo_base.specs.declared.place.Place.{Place}
use Rattle.evo_base.specs.declared.key.Key.{Key}
use Rattle.evo_base.specs.declared.fault_kind.FaultKind.{FaultKind}
use Rattle.evo_base.specs.declared.fault_kind.FaultKind.TheVariants as kind
use Rattle.evo_tree.specs.declared.module.SourceFault.{SourceFault}
use Rattle.evo_meaning.specs.Keys.{same_key}
use Rattle.evo_flow.specs.declared.flow.Effect.{Effect}
use Rattle.evo_flow.specs.declared.flow.Effect.TheVariants as effect
use Rattle.evo_flow.specs.declared.flow.Fact.{Fact}
use Rattle.evo_flow.specs.declared.flow.Fact.TheVariants as fact
use Rattle.evo_flow.specs.Way.{Step}

abbrev pub fault : FaultKind → Place → SourceFault
fault k p = record { kind = k; place = p }

-- nothing may use `self` before the fact
abbrev pub initial : Fact → Place → Effect
initial fact.Reached p = effect.Passes
initial f p = effect.Needs (fault kind.NotInitialised p)

abbrev pub twice : Place → Effect
twice p = effect.Once (fault kind.AssignedTwice p)

-- the property of the fact has the key `own`; a `let` gets its value once
abbrev pub stored : Fact → Key → Place → Key → Effect
stored (fact.Property once) own p k = if same_key own k then (if once then twice p else effect.Sets) else effect.Passes
stored f own p k = effect.Passes

abbrev pub assigned : Fact → Effect
assigned fact.Whole = effect.Sets
assigned f = effect.Passes

abbrev pub delegated : Fact → Effect
delegated fact.Reached = effect.Passes
delegated f = effect.Sets

-- `super.init` is called once, and after the own properties have their values
abbrev pub above : Fact → Place → Effect
above fact.Super p = twice p
above (fact.Property once) p = initial (fact.Property once) p
above f p = effect.Passes

abbrev pub act : Fact → Key → Step → Effect
act f own (Step.uses p) = initial f p
act f own (Step.leaves p) = initial f p
act f own (Step.stores p k) = stored f own p k
act f own (Step.assigns p) = assigned f
act f own (Step.delegates p) = delegated f
act f own (Step.supers p) = above f p
