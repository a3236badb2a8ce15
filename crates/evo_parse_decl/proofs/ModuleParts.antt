-- The readers of libraries and interfaces read their rules.
use Rattle.std.proofs.Common.{◌≡◌, ℕ, suc, ◌-◌, Bool, true, false, List, [], ◌∷◌, ◌++◌, Option, Some, None, refl, sym, subst, arith, inl, inr, length-append}
use Rattle.std.specs.Prelude.{map}
use Rattle.evo_combinators.specs.Rule.{Empty, Fail, TokenThen, Or, Then}
use Rattle.evo_combinators.specs.Reader.{◌>>=◌, pure, refuse, alt, one}
use Rattle.evo_combinators.specs.Guard.{Run, on, starts}
use Rattle.evo_combinators.specs.Attempt.{tries}
use Rattle.evo_combinators.specs.Laws.{Begins, GrowsWithNesting, ReadsRule, first, GrammarOf}
use Rattle.evo_combinators.proofs.Laws.{begins_then, right_same, right_then_by, right_map}
use Rattle.evo_combinators.proofs.GrowsWithNesting.{deeper_then, same_refl}
use Rattle.evo_combinators.proofs.GuardDeeper.{deeper_choose}
use Rattle.evo_combinators.proofs.FilterLaws.{right_filter}
use Rattle.evo_combinators.proofs.Attempts.{right_tries, deeper_tries}
use Rattle.evo_tree.specs.declared.statement.Block.{Block}
use Rattle.evo_tree.specs.declared.statement.Stmt.{Stmt}
use Rattle.evo_tree.specs.declared.module.Form.{Form}
use Rattle.evo_tree.specs.declared.module.Form.TheVariants as form
use Rattle.evo_tree.specs.declared.module.Item.{Item}
use Rattle.evo_tree.specs.declared.module.Item.TheVariants as item
use Rattle.evo_tree.specs.declared.terminal.Terminal.TheVariants as t
use Rattle.evo_tree.specs.Terminals.{number_of}
use Rattle.evo_tree.specs.Pieces.{Piece, mark, identifier, opens_nesting}
use Rattle.evo_tree.specs.Expressions.{Rule}
use Rattle.evo_tree.specs.Declarations.{only_if, Next, Below, IsDeclaration}
use Rattle.evo_tree.specs.Modules as grammar
use Rattle.evo_tree.specs.declared.module.ModulePart.{ModulePart}
use Rattle.evo_tree.specs.declared.module.ModulePart.TheVariants.{Import as imports, Items as items}
use Rattle.evo_tree.specs.declared.module.PartSpot.{PartSpot}
use Rattle.evo_tree.specs.declared.module.PartSpot.TheVariants.{Leading as leading, Further as further}
use Rattle.evo_tree.specs.Modules.{after_part, is_interface}
use Rattle.evo_parse_expr.specs.Read.{Reader}
use Rattle.evo_combinators.proofs.Nesting.{nest_by, nest_then}
use Rattle.evo_combinators.proofs.NestingTries.{nest_made, nest_tries}
use Rattle.evo_parse_expr.proofs.Nesting.{May, ReadsInner}
use Rattle.evo_combinators.proofs.NestingRuns.{nest_filter}
use Rattle.evo_parse_decl.specs.Read.{next, begins_top}
use Rattle.evo_parse_decl.specs.ReadModules as read
use Rattle.evo_parse_expr.proofs.Among.{among}
use Rattle.evo_parse_header.proofs.Sets.{Set, these, but, In, included, contains, Ends, into, included_refl, the_end}
use Rattle.evo_parse_header.proofs.Parses.{Chooses, Parses, parses_pure, parses_map, parses_led, parses_alt, chooses_alt_if, chooses_as}
use Rattle.evo_parse_expr.proofs.Tests.{mark_is}
use Rattle.evo_parse_header.proofs.Tests.{mark_test, identifier_test, number_among}
use Rattle.evo_parse_header.proofs.Productions.{KindWords, Words}
use Rattle.evo_parse_decl.proofs.Accessors.{Blocks}
use Rattle.evo_parse_decl.proofs.Declared.{Firsts}
use Rattle.evo_parse_decl.proofs.Top.{EndsOf, parses_top_declaration, begins_top_at, numbers_of_top_at}

abbrev Anything : Set
Anything = but []

-- the tokens end
abbrev pub End : Option Piece → Type 0
End x = x ≡ None

-- what a part begins with
abbrev PartFirsts : List ℕ
PartFirsts = number_of t.Import ∷ Firsts

-- the first token has one of these numbers
abbrev Numbered : List ℕ → Piece → Type 0
Numbered ns u = among ns (number_of u.terminal) ≡ true

-- a part behind a separator
module _ {A : Type 0} (F St : Set) (S : ℕ → Rule A) (p : ℕ → Reader A) (fits : Parses F St S p) (begins : (d : ℕ) → Begins (Numbered PartFirsts) (S d)) where
  full : (d : ℕ) (x : A) → S d [] x → ⊥
  full d x s = let (u, vs, cut, is) = begins d [] x s in cc

  no_nothing : (R : Rule A) (us : List Piece) (x : A) → Or R Fail us x → R us x
  no_nothing R us x (inl s) = s
  no_nothing R us x (inr none) = absurd none

  chooses_below : Chooses (these PartFirsts) St (λ d. Or (Below (S d)) Fail) (λ d. on (λ u. u.below) (p d) refuse)
  chooses_below = record {
    right = λ d n. right_same n (In St) (Below (S d)) (Below (S (suc d))) (Or (Below (S d)) Fail) (Or (Below (S (suc d))) Fail) (on (λ u. u.below) (p d) refuse)
        (λ us x s. inl s) (no_nothing (Below (S d))) (λ us x s. inl s)
        (right_filter n (In St) (λ u. u.below) (S d) (S (suc d)) (p d) (fits.chooses.right d n) (full d));
    deeper = λ d. deeper_choose (starts (λ u. u.below)) (p d) (p (suc d)) refuse refuse (fits.chooses.deeper d) (same_refl refuse);
    front = λ d us rest x s stop.
        let (v, vs, cut, is, s') = no_nothing (Below (S d)) us x s in
        let (u, ws, cut', h) = begins d us x s' in
        subst (λ k. In (these PartFirsts) (first (k ++ rest))) (sym cut') h;
    nest = λ d n. nest_by (May d) opens_nesting n (Below (S d)) (Or (Below (S d)) Fail) (on (λ u. u.below) (p d) refuse) (λ us x s. inl s)
        (nest_filter (May d) opens_nesting n (λ u. u.below) (S d) (p d) (fits.chooses.nest d n));
  }

  pub parses_separate : Parses (these (number_of t.Semicolon ∷ PartFirsts)) St (λ d. Next (S d)) (λ d. next (p d))
  unfolding next
  parses_separate = parses_alt {H = these PartFirsts} refl refl refl refl (mark_test t.Semicolon) (λ _. fits) chooses_below

  pub begins_separate : (d : ℕ) → Begins (Numbered (number_of t.Semicolon ∷ PartFirsts)) (Next (S d))
  begins_separate d us x (inl (u, q, vs, cut, takes, s)) = (u, vs, cut, into (these (number_of t.Semicolon ∷ [])) (these (number_of t.Semicolon ∷ PartFirsts)) refl (Some u) (number_among t.Semicolon u (mark_is t.Semicolon u q takes)))
  begins_separate d us x (inr (inl (v, vs, cut, is, s))) = let (u, ws, cut', h) = begins d us x s in (u, ws, cut', into (these PartFirsts) (these (number_of t.Semicolon ∷ PartFirsts)) refl (Some u) h)
  begins_separate d us x (inr (inr none)) = absurd none

module _ (B : ℕ → Bool → Rule Block) (b : ℕ → Bool → Reader Block) (blocks : Blocks B b) (S : ℕ → Rule Stmt) (s : ℕ → Reader Stmt) where
  module _ (f : Form) (St : Set) (ended : contains St the_end ≡ true) (wide : included (these (number_of t.Semicolon ∷ PartFirsts)) St ≡ true)
      (Is : ℕ → Rule (List Item)) (is : ℕ → Reader (List Item)) (items_fit : Parses (these (number_of t.At ∷ the_end ∷ Words ++ KindWords)) St Is is) (items_begin : (d : ℕ) → Begins (Numbered Firsts) (Is d)) where
    abbrev Imported : Bool → Rule ModulePart
    Imported may = TokenThen (only_if may (mark t.Import)) (λ _. TokenThen identifier (λ n. Empty (imports n)))

    abbrev A_part : ℕ → Bool → Rule ModulePart
    A_part d may = Or (Imported may) (Then (Is d) (λ xs. Empty (items xs)))

    abbrev a_part : ℕ → Bool → Reader ModulePart
    a_part d may = alt (only_if may (mark t.Import)) (λ _. one identifier >>= (λ n. pure (imports n))) (is d >>= (λ xs. pure (items xs)))

    parses_part : (may : Bool) → Parses (these (number_of t.Import ∷ number_of t.At ∷ the_end ∷ Words ++ KindWords)) St (λ d. A_part d may) (λ d. a_part d may)
    parses_part may = record {
      chooses = chooses_alt_if {H = these (number_of t.At ∷ the_end ∷ Words ++ KindWords)} refl refl refl refl may (mark_test t.Import) (λ _ _. parses_led {F = Anything} refl refl ended identifier_test (λ n. parses_pure ended (imports n))) (parses_map items items_fit).chooses;
      some = λ d. let (us, x, r) = (parses_map items items_fit).some d in (us, x, inr r);
    }

    begins_import : (may : Bool) → Begins (Numbered PartFirsts) (Imported may)
    begins_import true us x (u, q, vs, cut, takes, r) = (u, vs, cut, into (these (number_of t.Import ∷ [])) (these PartFirsts) refl (Some u) (number_among t.Import u (mark_is t.Import u q takes)))
    begins_import false us x (u, q, vs, cut, takes, r) = absurd (cc)

    begins_part : (may : Bool) (d : ℕ) → Begins (Numbered PartFirsts) (A_part d may)
    begins_part may d us x (inl led) = begins_import may us x led
    begins_part may d us x (inr r) =
        let (u, vs, cut, h) = begins_then (Numbered Firsts) (Is d) (λ xs. Empty (items xs)) (items_begin d) us x r in
        (u, vs, cut, into (these Firsts) (these PartFirsts) refl (Some u) h)

    -- the part at a spot
    abbrev Spotted : ℕ → PartSpot → Rule ModulePart
    Spotted d leading = A_part d true
    Spotted d (further may) = Next (A_part d may)

    abbrev spotted : ℕ → PartSpot → Reader ModulePart
    spotted d leading = a_part d true
    spotted d (further may) = next (a_part d may)

    chooses_spot : (at : PartSpot) → Chooses (these (number_of t.Semicolon ∷ number_of t.Import ∷ number_of t.At ∷ the_end ∷ Words ++ KindWords)) St (λ d. Spotted d at) (λ d. spotted d at)
    chooses_spot leading = chooses_as refl (included_refl St) ended (parses_part true).chooses
    chooses_spot (further may) = chooses_as refl (included_refl St) ended (parses_separate (these (number_of t.Import ∷ number_of t.At ∷ the_end ∷ Words ++ KindWords)) St (λ d. A_part d may) (λ d. a_part d may) (parses_part may) (begins_part may)).chooses

    begins_spot : (d : ℕ) (at : PartSpot) → Begins (Numbered (number_of t.Semicolon ∷ PartFirsts)) (Spotted d at)
    begins_spot d leading us x r = let (u, vs, cut, h) = begins_part true d us x r in (u, vs, cut, into (these PartFirsts) (these (number_of t.Semicolon ∷ PartFirsts)) refl (Some u) h)
    begins_spot d (further may) us x r = begins_separate (these (number_of t.Import ∷ number_of t.At ∷ the_end ∷ Words ++ KindWords)) St (λ d. A_part d may) (λ d. a_part d may) (parses_part may) (begins_part may) d us x r

    full_spot : (d : ℕ) (at : PartSpot) (x : ModulePart) → Spotted d at [] x → ⊥
    full_spot d at x r = let (u, vs, cut, h) = begins_spot d at [] x r in cc

    right_parts : (d n : ℕ) (at : PartSpot) → ReadsRule n End (Run (Spotted d) after_part at) (Run (Spotted (suc d)) after_part at) (tries (spotted d) after_part at)
    right_parts d n at = right_tries End (In St) (Spotted d) (Spotted (suc d)) (spotted d) after_part (λ _. Numbered (number_of t.Semicolon ∷ PartFirsts)) (λ n at. (chooses_spot at).right d n) (full_spot d) (begins_spot (suc d)) refl
        (λ at u stop h. cc) (λ x stop. subst (In St) (sym stop) ended) (λ at x u h. into (these (number_of t.Semicolon ∷ PartFirsts)) St wide (Some u) h) n at

    deeper_parts : (d : ℕ) (at : PartSpot) → GrowsWithNesting (tries (spotted d) after_part at) (tries (spotted (suc d)) after_part at)
    deeper_parts d at = deeper_tries (spotted d) (spotted (suc d)) after_part (λ at. (chooses_spot at).deeper d) at

    nest_parts : (d n : ℕ) (at : PartSpot) → ReadsInner d n (Run (Spotted d) after_part at) (tries (spotted d) after_part at)
    nest_parts d n at = nest_tries (May d) opens_nesting (In St) (Spotted d) (Spotted (suc d)) (spotted d) after_part (λ _. Numbered (number_of t.Semicolon ∷ PartFirsts))
        (λ n at. (chooses_spot at).right d n) (full_spot d) (begins_spot (suc d)) (λ n at. (chooses_spot at).nest d n) n at

  -- ---- libraries and interfaces

  pub parses_declared : (f : Form) → Parses (these (number_of t.At ∷ the_end ∷ Words ++ KindWords)) (EndsOf B b blocks (is_interface f)) (λ d. grammar.Declared B S f d) (λ d. read.declared b s f d)
  unfolding read.declared
  parses_declared f = parses_map (λ ds. map item.Decl ds) (parses_top_declaration B b blocks (is_interface f))

  begins_declared : (f : Form) (d : ℕ) → Begins (Numbered Firsts) (grammar.Declared B S f d)
  begins_declared f d us x r =
      let (u, vs, cut, h) = begins_then (λ u. begins_top u ≡ true) (IsDeclaration B (is_interface f) d) (λ ds. Empty (map item.Decl ds)) (begins_top_at B b blocks (is_interface f) d) us x r in
      (u, vs, cut, numbers_of_top_at B b blocks (is_interface f) u h)

  module _ (n : List ℕ) where
    abbrev library : Form
    library = form.Library n

    right_library : (d m : ℕ) → ReadsRule m End (grammar.Parts B S library d) (grammar.Parts B S library (suc d)) (read.parts b s library d)
    unfolding read.parts read.part_at read.part_of read.items_of
    right_library d m = right_parts library Anything refl refl (λ d. grammar.Declared B S library d) (λ d. read.declared b s library d) (parses_declared library) (begins_declared library) d m leading

    deeper_library : (d : ℕ) → GrowsWithNesting (read.parts b s library d) (read.parts b s library (suc d))
    unfolding read.parts read.part_at read.part_of read.items_of
    deeper_library d = deeper_parts library Anything refl refl (λ d. grammar.Declared B S library d) (λ d. read.declared b s library d) (parses_declared library) (begins_declared library) d leading

    pub nest_library : (d m : ℕ) → ReadsInner d m (grammar.Parts B S library d) (read.parts b s library d)
    unfolding read.parts read.part_at read.part_of read.items_of
    nest_library d m = nest_parts library Anything refl refl (λ d. grammar.Declared B S library d) (λ d. read.declared b s library d) (parses_declared library) (begins_declared library) d m leading

    -- the reader of a library reads the grammar's rule at each nesting
    pub library_grammar : GrammarOf End (λ d. grammar.Parts B S library d) (λ d. read.parts b s library d)
    library_grammar = record { right = right_library; deeper = deeper_library }

  parses_import : Parses (these (number_of t.Import ∷ [])) Anything (λ _. grammar.Import B S) (λ _. read.import_of b s)
  unfolding read.import_of
  parses_import = parses_led refl refl refl (mark_test t.Import) (λ _. parses_led {F = Anything} refl refl refl identifier_test (λ n. parses_pure refl (imports n)))

  abbrev BehindImport : ℕ → ModulePart → Rule (List ModulePart)
  BehindImport d x = Then (Run (grammar.PartAt B S form.Interface d) after_part (further false)) (λ xs. Empty (x ∷ xs))

  right_interface : (d m : ℕ) → ReadsRule m End (grammar.Parts B S form.Interface d) (grammar.Parts B S form.Interface (suc d)) (read.parts b s form.Interface d)
  unfolding read.parts read.part_at read.part_of read.items_of
  right_interface d m = right_then_by m m (In Anything) End (grammar.Import B S) (grammar.Import B S) (BehindImport d) (BehindImport (suc d)) (read.import_of b s) _ (parses_import.chooses.right 0 m)
      (λ x. right_map m End _ _ _ (λ xs. x ∷ xs) (right_parts form.Interface Ends refl refl (λ d. grammar.Declared B S form.Interface d) (λ d. read.declared b s form.Interface d) (parses_declared form.Interface) (begins_declared form.Interface) d m (further false)))
      (λ us vs x r fits. omega (arith, length-append us vs)) (λ x vs rest xs r stop. refl)
      (λ x. ([], x ∷ [], ([], [], [], refl, refl, (refl, refl)))) refl

  deeper_interface : (d : ℕ) → GrowsWithNesting (read.parts b s form.Interface d) (read.parts b s form.Interface (suc d))
  unfolding read.parts read.part_at read.part_of read.items_of
  deeper_interface d = deeper_then (read.import_of b s) (read.import_of b s) _ _ (same_refl (read.import_of b s))
      (λ x. deeper_then _ _ _ _ (deeper_parts form.Interface Ends refl refl (λ d. grammar.Declared B S form.Interface d) (λ d. read.declared b s form.Interface d) (parses_declared form.Interface) (begins_declared form.Interface) d (further false)) (λ xs. same_refl (pure (x ∷ xs))))

  pub nest_interface : (d m : ℕ) → ReadsInner d m (grammar.Parts B S form.Interface d) (read.parts b s form.Interface d)
  unfolding read.parts read.part_at read.part_of read.items_of
  nest_interface d m = nest_then (May d) opens_nesting m (In Anything) (grammar.Import B S) (grammar.Import B S) (BehindImport d) (read.import_of b s) _ (parses_import.chooses.right 0 m) (parses_import.chooses.nest d m)
      (λ x. nest_made (May d) opens_nesting m _ _ (λ xs. x ∷ xs) (nest_parts form.Interface Ends refl refl (λ d. grammar.Declared B S form.Interface d) (λ d. read.declared b s form.Interface d) (parses_declared form.Interface) (begins_declared form.Interface) d m (further false)))
      (λ held x. ([], x ∷ [], ([], [], [], refl, refl, (refl, refl))))

  -- and so does that of an interface
  pub interface_grammar : GrammarOf End (λ d. grammar.Parts B S form.Interface d) (λ d. read.parts b s form.Interface d)
  interface_grammar = record { right = right_interface; deeper = deeper_interface }
