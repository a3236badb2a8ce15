-- What linking finds by a table of symbols.
use Rattle.std.proofs.Common.{◌≡◌, ℕ, zero, suc, ◌<◌, ◌≤◌, get_or, arith, Bool, true, false, List, [], ◌∷◌, ◌++◌, length, take, drop, Option, Some, None, Err, refl, sym, ◌∙◌, ap, subst, inl, inr}
use Rattle.std.specs.Prelude.{slice_get, slice_index_or, if◌then◌else◌, IsSome}
use Rattle.std.specs.Option.{option_map}
use Rattle.std.specs.Str.{bytes_eq}
use Rattle.std.proofs.lemmas.List.{take_at, drop_at, map-append}
use Rattle.evo_base.specs.Names.{position_of}
use Rattle.evo_code.specs.declared.object.Function.{Function}
use Rattle.evo_code.specs.declared.object.Import.{Import}
use Rattle.evo_code.specs.declared.object.Object.{Object}
use Rattle.evo_execution.specs.Tables.{symbols_of}
use Rattle.evo_first_code.specs.declared.linker.LinkFault.{LinkFault}
use Rattle.evo_first_code.specs.declared.linker.LinkFault.TheVariants as fault
use Rattle.evo_first_code.specs.Works.{linked, AreTimed, exports, is_exported, AreExported, LinksWith}
use Rattle.evo_first_code.specs.Linking.{Checks, ChecksOwn, IsMissing, IsLinkFault, StandsTwice, FitTogether}
use Rattle.evo_first_code.proofs.Images.{twice_behind, not_distinct}
use Rattle.evo_first_code.proofs.Loading.{loads_of}

-- whether the function at a place is exported
abbrev pub flag : Option Function → Bool
flag None = false
flag (Some f) = f.exported

abbrev pub exported_at : List Function → Option ℕ → Bool
exported_at fs None = false
exported_at fs (Some k) = flag (slice_get fs k)

nothing : (o : Option ℕ) → false ≡ exported_at [] o
nothing None = refl
nothing (Some k) = refl

behind : (f : Function) (fs : List Function) (o : Option ℕ) → exported_at fs o ≡ exported_at (f ∷ fs) (option_map suc o)
behind f fs None = refl
behind f fs (Some k) = refl

-- the function at a place, and that there is none
pub flag_here : (fs : List Function) (k : ℕ) (f : Function) → k < length fs → f ≡ get_or fs k f → flag (slice_get fs k) ≡ f.exported
flag_here [] k f lt is = absurd (omega arith)
flag_here (g ∷ fs) zero f lt is = ap (λ (h : Function). h.exported) (sym is)
flag_here (g ∷ fs) (suc k) f lt is = flag_here fs k f (omega arith) is

pub flag_behind : (fs : List Function) (k : ℕ) → length fs ≤ k → flag (slice_get fs k) ≡ false
flag_behind [] k le = refl
flag_behind (g ∷ fs) zero le = absurd (omega arith)
flag_behind (g ∷ fs) (suc k) le = flag_behind fs k (omega arith)

-- what a table that begins with the symbols finds
pub by_table : (fs : List Function) (rest : List (List ℕ)) (symbol : List ℕ) → exports fs symbol ≡ exported_at fs (position_of symbol (symbols_of fs ++ rest))
by_table [] rest symbol = nothing (position_of symbol rest)
by_table (f ∷ fs) rest symbol = by (bytes_eq symbol f.symbol) (by_table fs rest symbol)
  where
    by : (b : Bool) → exports fs symbol ≡ exported_at fs (position_of symbol (symbols_of fs ++ rest)) → (if b then f.exported else exports fs symbol) ≡ exported_at (f ∷ fs) (if b then Some 0 else option_map suc (position_of symbol (symbols_of fs ++ rest)))
    by true more = refl
    by false more = more ∙ behind f fs (position_of symbol (symbols_of fs ++ rest))

-- the faults of what a library needs
pub own_fault : (theirs own : List Function) (needed imports : List Import) (e : LinkFault) → ChecksOwn own needed (Err e) → Checks theirs own needed imports (Err e)
own_fault theirs own needed imports (fault.Twice symbol) h =
    subst (StandsTwice symbol) (sym (map-append (λ (f : Function). f.symbol) theirs own)) (twice_behind symbol (symbols_of theirs) (symbols_of own) h)
own_fault theirs own needed imports (fault.Missing symbol) h = inl h
own_fault theirs own needed imports fault.Memory h = tt

-- the two parts of functions that stand behind one another
pub first_part : (xs ys : List Function) (n : ℕ) → n ≡ length xs → take n (xs ++ ys) ≡ xs
first_part xs ys n e = take_at xs ys n (sym e)

pub second_part : (xs ys : List Function) (n : ℕ) → n ≡ length xs → drop n (xs ++ ys) ≡ ys
second_part xs ys n e = drop_at xs ys n (sym e)

-- functions that fit together link
pub links_of : (library client : Object) → AreTimed library.functions → AreTimed client.functions → FitTogether library.functions client.functions library.imports client.imports → LinksWith library client
links_of library client p q fit = record { distinct = fit.distinct; starts = fit.starts; loads = loads_of library client p q fit.starts; library_needs = fit.library_needs; client_needs = fit.client_needs }

-- the same functions and needs fit together
pub fit_is : (a a' b b' : List Function) (c c' d d' : List Import) → a ≡ a' → b ≡ b' → c ≡ c' → d ≡ d' → FitTogether a b c d → FitTogether a' b' c' d'
fit_is a a' b b' c c' d d' p q r s h = rw (← p, ← q, ← r, ← s) h

-- objects that link have no symbol twice, and none is missing
exported_in : (fs : List Function) (imports : List Import) (i : Import) (k : ℕ) → AreExported fs imports → k < length imports → slice_index_or imports k i ≡ i → is_exported fs i ≡ true
exported_in fs [] i k all lt e = absurd (omega arith)
exported_in fs (x ∷ xs) i zero all lt e = subst (λ (s : Import). is_exported fs s ≡ true) e all.0
exported_in fs (x ∷ xs) i (suc k) all lt e = exported_in fs xs i k all.1 (omega arith) e

not_missing : (fs : List Function) (imports : List Import) (symbol : List ℕ) → AreExported fs imports → IsMissing fs imports symbol → ⊥
not_missing fs imports symbol all missing =
    let at = missing.stands in
    let yes : true ≡ false = sym (exported_in fs imports missing.needs at.0 all at.1 at.2) ∙ missing.absent in
    absurd cc

none_is_some : (o : Option ℕ) → o ≡ None → IsSome o → ⊥
none_is_some None e h = absurd cc
none_is_some (Some n) e h = absurd cc

pub never_twice : (library client : Object) (symbol : List ℕ) → LinksWith library client → StandsTwice symbol (symbols_of (linked library client).functions) → ⊥
never_twice library client symbol links twice = not_distinct symbol (symbols_of (linked library client).functions) twice links.distinct

pub never_missing : (library client : Object) (symbol : List ℕ) → LinksWith library client → IsLinkFault library.functions client.functions library.imports client.imports (fault.Missing symbol) → ⊥
never_missing library client symbol links (inl a) = not_missing client.functions library.imports symbol links.library_needs a
never_missing library client symbol links (inr (inl b)) = not_missing library.functions client.imports symbol links.client_needs b
never_missing library client symbol links (inr (inr c)) =
    none_is_some _ c.1 (subst (λ (s : List ℕ). IsSome (position_of s (symbols_of (library.functions ++ client.functions)))) (sym c.0) links.starts)
