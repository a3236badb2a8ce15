-- The table words of a signature: one for each of its different conformance requirements, and before them one for `Self` of a protocol.
use Rattle.std.specs.Prelude.{ℕ, List, [], ◌∷◌, filter, Option, Some, None, Bool, true, false}
use Rattle.std.specs.Ordering.{nat_cmp, ordering_then}
use Rattle.std.specs.declared.cmp.Ordering.{Ordering}
use Rattle.std.specs.declared.cmp.Ordering.TheVariants.{Less, Equal, Greater}
use Rattle.evo_base.specs.declared.key.Key.{Key}
use Rattle.evo_resolved.specs.declared.resolved_type.RType.{RType}
use Rattle.evo_resolved.specs.declared.resolved_type.RType.TheVariants as ty
use Rattle.evo_resolved.specs.declared.declaration.RRequirement.{RRequirement}
use Rattle.evo_resolved.specs.declared.declaration.RRequirement.TheVariants as requirement
use Rattle.evo_resolved.specs.declared.declaration.Signature.{Signature}
use Rattle.evo_names.specs.Listed.{Text}
use Rattle.evo_solve.specs.declared.path.Word.{Word}
use Rattle.evo_solve.specs.Canonical.{number, name_order, names_order}

-- ---- the order of words

-- requirements on named types come before those on parameters
abbrev pub rank : RType → ℕ
rank ty.NoValue = 0
rank (ty.Named k) = 1
rank t = 2

-- the names behind a parameter; of a named type those of its context
abbrev pub names_in : RType → List Text
names_in (ty.Assoc i ns) = ns
names_in (ty.Named k) = k.context
names_in t = []

abbrev pub base_of : RType → Text
base_of (ty.Named k) = k.base
base_of t = []

abbrev pub subject_order : RType → RType → Ordering
subject_order t u = ordering_then (nat_cmp (rank t) (rank u)) (ordering_then (nat_cmp (number t) (number u)) (ordering_then (names_order (names_in t) (names_in u)) (name_order (base_of t) (base_of u))))

-- By the text of the protocol. No character of a name comes before the dots of such a text, so it is the order of the names in it.
abbrev pub protocol_order : Key → Key → Ordering
protocol_order p q = ordering_then (names_order p.context q.context) (name_order p.base q.base)

-- by parameter, then by associated names, then by protocol
abbrev pub word_order : Word → Word → Ordering
word_order v w = ordering_then (subject_order v.subject w.subject) (protocol_order v.protocol w.protocol)

-- ---- the words

-- a word put where it belongs among others; one that is there already is the same word
abbrev pub put : Word → List Word → List Word
put w [] = w ∷ []
put w (v ∷ vs) = elim (word_order w v) [ Less ↦ w ∷ v ∷ vs | Equal ↦ v ∷ vs | Greater ↦ v ∷ put w vs ]

abbrev pub word : RType → Key → Word
word t p = record { subject = t; protocol = p }

-- those of the first requirements are there already
abbrev pub put_all : List RRequirement → List Word → List Word
put_all [] ws = ws
put_all (requirement.Conforms t p ∷ rs) ws = put_all rs (put (word t.ty p.key) ws)
put_all (requirement.Same l p r ∷ rs) ws = put_all rs ws

abbrev pub is_unequal : Ordering → Bool
is_unequal Less = true
is_unequal Equal = false
is_unequal Greater = true

-- whether two words differ
abbrev pub differs : Word → Word → Bool
differs w v = is_unequal (word_order w v)

-- that of `Self` stands first, and nowhere else
abbrev pub with_self : Option Key → List Word → List Word
with_self None ws = ws
with_self (Some p) ws = word (ty.Param 0) p ∷ filter (differs (word (ty.Param 0) p)) ws

abbrev pub table_words : Signature → List Word
table_words s = with_self s.protocol (put_all s.requirements [])
