-- The reader of clients reads its rule.
use Rattle.std.proofs.Common.{◌≡◌, ℕ, suc, ◌-◌, Bool, true, false, not, List, [], ◌∷◌, ◌++◌, Some, refl, sym, ◌∙◌, ap, subst, ◌⊎◌, inl, inr, ltb-true}
use Rattle.std.specs.Prelude.{map, nat_lt, ◌&&◌}
use Rattle.std.specs.Option.{is_some}
use Rattle.evo_base.specs.declared.place.Place.{Place}
use Rattle.evo_combinators.specs.Rule.{Empty, Fail, TokenThen, Or, Then, SomeOf}
use Rattle.evo_combinators.specs.Reader.{◌>>=◌, pure, refuse, alt, one}
use Rattle.evo_combinators.specs.Guard.{on, starts, ahead}
use Rattle.evo_combinators.specs.Laws.{Begins, GrowsWithNesting, ReadsRule, Takes, first, GrammarOf}
use Rattle.evo_combinators.proofs.Laws.{begins_then, of_map, right_stop, right_map, right_pure, right_alt_by, right_ext, right_same, begins_skips, to_map}
use Rattle.evo_combinators.proofs.GrowsWithNesting.{deeper_then, deeper_alt, same_refl}
use Rattle.evo_combinators.proofs.GuardDeeper.{deeper_choose}
use Rattle.evo_combinators.proofs.GuardLaws.{right_on, starts_is, right_ahead, which}
use Rattle.evo_combinators.proofs.Entered.{takes_then}
use Rattle.evo_tree.specs.declared.statement.Stmt.{Stmt}
use Rattle.evo_tree.specs.declared.module.Form.TheVariants as form
use Rattle.evo_tree.specs.declared.module.Item.{Item}
use Rattle.evo_tree.specs.declared.module.Item.TheVariants as item
use Rattle.evo_tree.specs.declared.declaration.Decl.{Decl}
use Rattle.evo_tree.specs.declared.terminal.Terminal.{Terminal}
use Rattle.evo_tree.specs.declared.terminal.Terminal.TheVariants as t
use Rattle.evo_tree.specs.Terminals.{number_of}
use Rattle.evo_tree.specs.Pieces.{Piece, is_terminal, mark, identifier, opens_nesting}
use Rattle.evo_tree.specs.Expressions.{Rule}
use Rattle.evo_tree.specs.Statements.{IsStmt, Later, is_later}
use Rattle.evo_tree.specs.Declarations.{nominal_word, IsDeclaration, only_if, Below, Next}
use Rattle.evo_tree.specs.declared.module.ModulePart.{ModulePart}
use Rattle.evo_tree.specs.declared.module.ModulePart.TheVariants.{Import as imports, Items as items}
use Rattle.evo_tree.specs.declared.module.PartSpot.{PartSpot}
use Rattle.evo_tree.specs.declared.module.PartSpot.TheVariants.{Leading as leading, Further as further}
use Rattle.evo_tree.specs.Modules.{after_part}
use Rattle.evo_parse_header.proofs.Parses.{Parses, parses_led, parses_pure, skipped, never}
use Rattle.evo_tree.specs.Modules as grammar
use Rattle.evo_parse_expr.specs.Read.{Reader}
use Rattle.evo_combinators.proofs.Nesting.{nest_by, nest_choose, nest_quiet}
use Rattle.evo_combinators.proofs.NestingTries.{nest_made, nest_ahead, nest_tries}
use Rattle.evo_parse_expr.proofs.Tests.{quiet_mark}
use Rattle.evo_parse_expr.proofs.Nesting.{May, ReadsInner}
use Rattle.evo_combinators.proofs.NestingRuns.{nest_ext, nest_filter}
use Rattle.evo_parse_stmt.specs.Read.{stmt}
use Rattle.evo_parse_stmt.proofs.Follows.{After, AfterStmt, Starts, leading as statement_words, fresh_apart, expression_codes, after_at, next_after, later_no_dot}
use Rattle.evo_parse_expr.proofs.Tests.{rank_at, opens_expr}
use Rattle.evo_parse_expr.proofs.Among.{among, apart, disjoint}
use Rattle.evo_parse_expr.proofs.Tests as tests
use Rattle.evo_parse_stmt.proofs.Tests.{assigning_codes}
use Rattle.evo_combinators.proofs.FilterLaws.{right_filter}
use Rattle.evo_combinators.proofs.Attempts.{right_tries, deeper_tries}
use Rattle.evo_parse_stmt.proofs.Family.{laws, stmt_grammar, nest_stmt}
use Rattle.evo_parse_decl.specs.Closed.{BlockAt, block_at}
use Rattle.evo_parse_header.specs.Read.{is_modifier}
use Rattle.evo_parse_decl.specs.Read.{begins_top, next}
use Rattle.evo_parse_decl.specs.ReadModules as read
use Rattle.evo_parse_header.proofs.Sets.{these, but, In, into, none_in, none_holds, among_cons}
use Rattle.evo_parse_decl.proofs.ModuleParts.{parses_declared, End}
use Rattle.evo_parse_decl.proofs.Concrete.{blocks}
use Rattle.evo_parse_expr.proofs.Tests.{mark_is}
use Rattle.evo_parse_header.proofs.Tests.{nominal_test, identifier_test, number_among, modifier_numbers}
use Rattle.evo_parse_header.proofs.Productions.{Words, is_modifier_word}
use Rattle.evo_parse_decl.proofs.Members.{or_rest}
use Rattle.evo_parse_decl.proofs.Top.{parses_top_declaration, begins_top_at, takes_top_at, is_nominal}

-- what a declaration at the top level begins with
abbrev Tops : List ℕ
Tops = number_of t.At ∷ number_of t.Func ∷ number_of t.Extension ∷ number_of t.Struct ∷ number_of t.Enum ∷ number_of t.Class ∷ number_of t.Protocol ∷ Words

top_number : (u : Piece) → begins_top u ≡ true → among Tops (number_of u.terminal) ≡ true
unfolding begins_top
top_number u is = elim (which (is_terminal t.At u)) [
  | inl here ↦ into (these (number_of t.At ∷ [])) (these Tops) refl (Some u) (number_among t.At u here)
  | inr no_at ↦ elim (which (is_modifier [] u)) [
    | inl here ↦ let (m, takes) = is_modifier_word [] u here in into (these Words) (these Tops) refl (Some u) (modifier_numbers [] u m takes)
    | inr no_word ↦ elim (which (is_terminal t.Func u)) [
      | inl here ↦ into (these (number_of t.Func ∷ [])) (these Tops) refl (Some u) (number_among t.Func u here)
      | inr no_func ↦ elim (which (is_some (nominal_word u))) [
        | inl here ↦ let (w, takes) = is_nominal u here in into (these (number_of t.Struct ∷ number_of t.Enum ∷ number_of t.Class ∷ number_of t.Protocol ∷ [])) (these Tops) refl (Some u) (nominal_test.numbers u w takes)
        | inr no_type ↦ into (these (number_of t.Extension ∷ [])) (these Tops) refl (Some u) (or_rest (is_some (nominal_word u)) _ no_type (or_rest (is_terminal t.Func u) _ no_func (or_rest (is_modifier [] u) _ no_word (or_rest (is_terminal t.At u) _ no_at is))))
      ]
    ]
  ]
]

-- no statement begins so
no_statement : (u : Piece) → Starts u → among Tops (number_of u.terminal) ≡ true → ⊥
no_statement u (inl lead) is = apart Tops statement_words (number_of u.terminal) refl is lead
no_statement u (inr fresh) is = fresh_apart Tops refl u fresh is

abbrev pub S_at : ℕ → Rule Stmt
S_at d = Later (IsStmt false d)

abbrev pub s_at : ℕ → Reader Stmt
s_at d = ahead is_later >>= (λ _. stmt false d)

begins_stmt : (d : ℕ) → Begins Starts (IsStmt false d)
begins_stmt d us x r = let law = (stmt_grammar false).right d 0 in (laws false d).tail.begins us x (law.wider us x r)

-- ---- items

abbrev D : ℕ → Rule (List Item)
D d = grammar.Declared BlockAt S_at form.Client d

abbrev X : ℕ → Rule (List Item)
X d = Then (S_at d) (λ x. Empty (item.Stmt x ∷ []))

abbrev declared : ℕ → Reader (List Item)
declared d = read.declared block_at s_at form.Client d

abbrev stated : ℕ → Reader (List Item)
stated d = s_at d >>= (λ x. pure (item.Stmt x ∷ []))

right_declared : (d n : ℕ) → ReadsRule n AfterStmt (D d) (D (suc d)) (declared d)
right_declared d n = right_stop n (In (but [])) AfterStmt (D d) (D (suc d)) (declared d) (λ x h. refl) tt ((parses_declared BlockAt block_at blocks S_at s_at form.Client).chooses.right d n)

begins_declared : (d : ℕ) → Begins (λ u. begins_top u ≡ true) (D d)
begins_declared d = begins_then (λ u. begins_top u ≡ true) (IsDeclaration BlockAt false d) (λ ds. Empty (map item.Decl ds)) (begins_top_at BlockAt block_at blocks false d)

full_top : (d : ℕ) (x : List Decl) → IsDeclaration BlockAt false d [] x → ⊥
full_top d x r = let (u, vs, cut, h) = begins_top_at BlockAt block_at blocks false d [] x r in cc

takes_declared : (d : ℕ) (u : Piece) → begins_top u ≡ true → Takes (declared d) u
unfolding read.declared
takes_declared d u is = takes_then (In (but [])) (λ x. Unit {0}) (IsDeclaration BlockAt false d) (IsDeclaration BlockAt false (suc d)) (λ ds. Empty (map item.Decl ds)) (λ ds. Empty (map item.Decl ds)) _ (λ ds. pure (map item.Decl ds)) u
    (λ n. (parses_top_declaration BlockAt block_at blocks false).chooses.right d n) (λ ds n. right_pure n (λ x. Unit {0}) tt (map item.Decl ds)) (full_top d) (takes_top_at BlockAt block_at blocks false d u is)

full_stmt : (d : ℕ) (x : Stmt) → IsStmt false d [] x → ⊥
full_stmt d x r = let (u, vs, cut, h) = begins_stmt d [] x r in cc

right_stated : (d n : ℕ) → ReadsRule n AfterStmt (X d) (X (suc d)) (stated d)
right_stated d n = right_map n AfterStmt (S_at d) (S_at (suc d)) (s_at d) (λ x. item.Stmt x ∷ [])
    (right_ahead n AfterStmt is_later (IsStmt false d) (IsStmt false (suc d)) (stmt false d) ((stmt_grammar false).right d n) (full_stmt d))

-- begins a statement that stands behind others
record Stands (u : Piece) : Type 0 where
  later : is_later u ≡ true
  starts : Starts u

begins_stated : (d : ℕ) → Begins Stands (X d)
begins_stated d us x r =
    let (y, (v, vs, cut, is, s), e) = of_map (S_at d) (λ x. item.Stmt x ∷ []) us x r in
    let (u, ws, cut', h) = begins_stmt d us y s in
    let same : v ≡ u = let both = sym (ap first cut) ∙ ap first cut' in cc in
    (u, ws, cut', record { later = subst (λ k. is_later k ≡ true) same is; starts = h })

no_declaration : (u : Piece) → Stands u → begins_top u ≡ false
no_declaration u stands = elim (which (begins_top u)) [
  | inl is ↦ absurd (no_statement u stands.starts (top_number u is))
  | inr isnt ↦ isnt
]

right_items : (d n : ℕ) → ReadsRule n AfterStmt (grammar.Items BlockAt S_at form.Client d) (grammar.Items BlockAt S_at form.Client (suc d)) (read.items_of block_at s_at form.Client d)
unfolding read.items_of
right_items d n = right_on n AfterStmt begins_top (D d) (D (suc d)) (X d) (X (suc d)) (declared d) (stated d) (right_declared d n) (right_stated d n) (begins_declared d)
    (λ u us fits is bad. takes_declared d u is us bad)
    (λ us rest x r stop. let (u, vs, cut, h) = begins_stated d us x r in ap (λ k. starts begins_top (k ++ rest)) cut ∙ starts_is begins_top (u ∷ (vs ++ rest)) ∙ no_declaration u h)

deeper_items : (d : ℕ) → GrowsWithNesting (read.items_of block_at s_at form.Client d) (read.items_of block_at s_at form.Client (suc d))
unfolding read.items_of
deeper_items d = deeper_choose (starts begins_top) (declared d) (declared (suc d)) (stated d) (stated (suc d)) ((parses_declared BlockAt block_at blocks S_at s_at form.Client).chooses.deeper d)
    (deeper_then (s_at d) (s_at (suc d)) _ _ (deeper_then (ahead is_later) (ahead is_later) _ _ (same_refl (ahead is_later)) (λ _. (stmt_grammar false).deeper d)) (λ x. same_refl (pure (item.Stmt x ∷ []))))

-- begins an item
abbrev ItemFirst : Piece → Type 0
ItemFirst u = (begins_top u ≡ true) ⊎ Stands u

begins_items : (d : ℕ) → Begins ItemFirst (grammar.Items BlockAt S_at form.Client d)
begins_items d us x (inl r) = let (u, vs, cut, h) = begins_declared d us x r in (u, vs, cut, inl h)
begins_items d us x (inr r) = let (u, vs, cut, h) = begins_stated d us x r in (u, vs, cut, inr h)

-- ---- parts

abbrev PartFirst : Piece → Type 0
PartFirst u = (is_terminal t.Import u ≡ true) ⊎ ItemFirst u

-- no item begins with such a token
item_not : (n : ℕ) → none_in (these Tops) (n ∷ []) ≡ true → disjoint (n ∷ []) statement_words ≡ true → disjoint (n ∷ []) expression_codes ≡ true → (u : Piece) → ItemFirst u → among (n ∷ []) (number_of u.terminal) ≡ true → ⊥
item_not n far no_lead no_expr u (inl top) is = none_holds (these Tops) (number_of u.terminal) (n ∷ []) far is (top_number u top)
item_not n far no_lead no_expr u (inr stands) is = starts_apart stands.starts
  where
    starts_apart : Starts u → ⊥
    starts_apart (inl lead) = apart (n ∷ []) statement_words (number_of u.terminal) no_lead is lead
    starts_apart (inr fresh) = fresh_apart (n ∷ []) no_expr u fresh is

abbrev Imported : Place → Rule ModulePart
Imported _ = TokenThen identifier (λ n. Empty (imports n))

abbrev imported : Place → Reader ModulePart
imported _ = one identifier >>= (λ n. pure (imports n))

abbrev Y : ℕ → Rule ModulePart
Y d = Then (grammar.Items BlockAt S_at form.Client d) (λ is. Empty (items is))

abbrev itemed : ℕ → Reader ModulePart
itemed d = read.items_of block_at s_at form.Client d >>= (λ is. pure (items is))

abbrev P_of : ℕ → Bool → Rule ModulePart
P_of d may = grammar.PartOf BlockAt S_at form.Client d may

abbrev part : ℕ → Bool → Reader ModulePart
part d may = alt (only_if may (mark t.Import)) imported (itemed d)

right_itemed : (d n : ℕ) → ReadsRule n AfterStmt (Y d) (Y (suc d)) (itemed d)
right_itemed d n = right_map n AfterStmt (grammar.Items BlockAt S_at form.Client d) (grammar.Items BlockAt S_at form.Client (suc d)) (read.items_of block_at s_at form.Client d) (λ is. items is) (right_items d n)

begins_itemed : (d : ℕ) → Begins ItemFirst (Y d)
begins_itemed d = begins_then ItemFirst (grammar.Items BlockAt S_at form.Client d) (λ is. Empty (items is)) (begins_items d)

parses_imported : (p : Place) → Parses (these (number_of t.Identifier ∷ [])) (but []) (λ _. Imported p) (λ _. imported p)
parses_imported p = parses_led refl refl refl identifier_test (λ n. parses_pure refl (imports n))

right_part : (d n : ℕ) (may : Bool) → ReadsRule n AfterStmt (P_of d may) (P_of (suc d) may) (part d may)
right_part d n true = right_alt_by n AfterStmt (mark t.Import) Imported Imported (Y d) (Y (suc d)) imported (itemed d)
    (λ p. right_stop (n - 1) (In (but [])) AfterStmt (Imported p) (Imported p) (imported p) (λ x h. refl) tt ((parses_imported p).chooses.right d (n - 1))) (right_itemed d n)
    (λ p. (parses_imported p).some d)
    (λ us rest x r stop. begins_skips ItemFirst (mark t.Import) (Y d) (begins_itemed d) (λ u a h takes. item_not (number_of t.Import) refl refl refl u h (number_among t.Import u (mark_is t.Import u a takes))) us rest x r)
right_part d n false = right_ext n AfterStmt (P_of d false) (P_of (suc d) false) (itemed d) (part d false) (λ ts all. skipped (mark t.Import) imported (itemed d) ts)
    (right_same n AfterStmt (Y d) (Y (suc d)) (P_of d false) (P_of (suc d) false) (itemed d) (λ us x r. inr r) (never (mark t.Import) Imported (Y d)) (λ us x r. inr r) (right_itemed d n))

deeper_part : (d : ℕ) (may : Bool) → GrowsWithNesting (part d may) (part (suc d) may)
deeper_part d may = deeper_alt (only_if may (mark t.Import)) imported imported (itemed d) (itemed (suc d)) (λ p. same_refl (imported p)) (deeper_then _ _ _ _ (deeper_items d) (λ is. same_refl (pure (items is))))

import_first : (may : Bool) (u : Piece) (p : Place) → only_if may (mark t.Import) u ≡ Some p → is_terminal t.Import u ≡ true
import_first true u p e = mark_is t.Import u p e
import_first false u p e = absurd (cc)

begins_part : (d : ℕ) (may : Bool) → Begins PartFirst (P_of d may)
begins_part d may us x (inl (u, p, vs, cut, takes, r)) = (u, vs, cut, inl (import_first may u p takes))
begins_part d may us x (inr r) = let (u, vs, cut, h) = begins_itemed d us x r in (u, vs, cut, inr h)

full_part : (d : ℕ) (may : Bool) (x : ModulePart) → P_of d may [] x → ⊥
full_part d may x r = let (u, vs, cut, h) = begins_part d may [] x r in cc

some_part : (d : ℕ) (may : Bool) → SomeOf (P_of (suc d) may)
some_part d may = let (us, x, r) = (parses_declared BlockAt block_at blocks S_at s_at form.Client).some d in (us, items x, inr (to_map (grammar.Items BlockAt S_at form.Client (suc d)) (λ is. items is) us x (inl r)))

part_semicolon : (u : Piece) (p : Place) → PartFirst u → mark t.Semicolon u ≡ Some p → ⊥
part_semicolon u p (inl is) takes = none_holds (these (number_of t.Import ∷ [])) (number_of u.terminal) (number_of t.Semicolon ∷ []) refl (number_among t.Semicolon u (mark_is t.Semicolon u p takes)) (number_among t.Import u is)
part_semicolon u p (inr h) takes = item_not (number_of t.Semicolon) refl refl refl u h (number_among t.Semicolon u (mark_is t.Semicolon u p takes))

no_nothing : (R : Rule ModulePart) (us : List Piece) (x : ModulePart) → Or R Fail us x → R us x
no_nothing R us x (inl r) = r
no_nothing R us x (inr none) = absurd none

abbrev Lower : ℕ → Bool → Rule ModulePart
Lower d may = Or (Below (P_of d may)) Fail

abbrev lower : ℕ → Bool → Reader ModulePart
lower d may = on (λ u. u.below) (part d may) refuse

right_lower : (d n : ℕ) (may : Bool) → ReadsRule n AfterStmt (Lower d may) (Lower (suc d) may) (lower d may)
right_lower d n may = right_same n AfterStmt (Below (P_of d may)) (Below (P_of (suc d) may)) (Lower d may) (Lower (suc d) may) (lower d may) (λ us x r. inl r) (no_nothing (Below (P_of d may))) (λ us x r. inl r)
    (right_filter n AfterStmt (λ u. u.below) (P_of d may) (P_of (suc d) may) (part d may) (right_part d n may) (full_part d may))

begins_lower : (d : ℕ) (may : Bool) → Begins (λ u. (u.below ≡ true) × PartFirst u) (Lower d may)
begins_lower d may us x r =
    let (v, vs, cut, is, s) = no_nothing (Below (P_of d may)) us x r in
    let (u, ws, cut', h) = begins_part d may us x s in
    let same : v ≡ u = let both = sym (ap first cut) ∙ ap first cut' in cc in
    (u, ws, cut', (subst (λ k. k.below ≡ true) same is, h))

right_next : (d n : ℕ) (may : Bool) → ReadsRule n AfterStmt (Next (P_of d may)) (Next (P_of (suc d) may)) (next (part d may))
unfolding next
right_next d n may = right_alt_by n AfterStmt (mark t.Semicolon) (λ _. P_of d may) (λ _. P_of (suc d) may) (Lower d may) (Lower (suc d) may) (λ _. part d may) (lower d may)
    (λ _. right_part d (n - 1) may) (right_lower d n may) (λ _. some_part d may)
    (λ us rest x r stop. begins_skips (λ u. (u.below ≡ true) × PartFirst u) (mark t.Semicolon) (Lower d may) (begins_lower d may) (λ u a h takes. part_semicolon u a h.1 takes) us rest x r)

deeper_next : (d : ℕ) (may : Bool) → GrowsWithNesting (next (part d may)) (next (part (suc d) may))
unfolding next
deeper_next d may = deeper_alt (mark t.Semicolon) (λ _. part d may) (λ _. part (suc d) may) (lower d may) (lower (suc d) may) (λ _. deeper_part d may) (deeper_choose (starts (λ u. u.below)) (part d may) (part (suc d) may) refuse refuse (deeper_part d may) (same_refl refuse))

-- ---- what may follow a part

-- nothing before goes on with such a terminal
calm : Terminal → Bool
calm k = nat_lt 6 (rank_at k true false) && not (among (number_of t.Else ∷ assigning_codes) (number_of k)) && not (opens_expr k)

all_calm : List Terminal → Bool
all_calm [] = true
all_calm (k ∷ ks) = calm k && all_calm ks

not_true : (b : Bool) → not b ≡ true → b ≡ false
not_true true e = absurd (cc)
not_true false e = refl

three : (a b c : Bool) → (a && b && c) ≡ true → (a ≡ true) × (b ≡ true) × (c ≡ true)
three true true c e = (refl, refl, e)
three true false c e = absurd (cc)
three false b c e = absurd (cc)

two_true : (a b : Bool) → (a && b) ≡ true → (a ≡ true) × (b ≡ true)
two_true true b e = (refl, e)
two_true false b e = absurd (cc)

after_of : (ks : List Terminal) (u : Piece) → all_calm ks ≡ true → among (map number_of ks) (number_of u.terminal) ≡ true → After u
unfolding all_calm calm
after_of [] u calm' is = absurd (cc)
after_of (k ∷ ks) u calm' is = among_cons (After u) (number_of u.terminal) (number_of k) (map number_of ks)
    (λ same. let (quiet, other, shut) = three (nat_lt 6 (rank_at k true false)) _ _ (two_true (nat_lt 6 (rank_at k true false) && not (among (number_of t.Else ∷ assigning_codes) (number_of k)) && not (opens_expr k)) (all_calm ks) calm').0 in
    after_at k u same (ltb-true 6 (rank_at k true false) quiet) (not_true _ other) (not_true _ shut))
    (λ later. after_of ks u (two_true _ (all_calm ks) calm').1 later) is

abbrev Keywords : List Terminal
Keywords = t.Import ∷ t.At ∷ t.Func ∷ t.Extension ∷ t.Struct ∷ t.Enum ∷ t.Class ∷ t.Protocol
    ∷ t.Open ∷ t.Public ∷ t.Internal ∷ t.Private ∷ t.Final ∷ t.Static ∷ t.Mutating ∷ t.Override ∷ []

after_keyword : (u : Piece) → among (number_of t.Import ∷ Tops) (number_of u.terminal) ≡ true → After u
unfolding all_calm calm
after_keyword u is = after_of Keywords u refl is

-- begins a part behind a separator
abbrev NextFirst : Piece → Type 0
NextFirst u = (is_terminal t.Semicolon u ≡ true) ⊎ ((u.below ≡ true) × PartFirst u)

after_part_first : (u : Piece) → NextFirst u → AfterStmt (Some u)
after_part_first u (inl is) = next_after u (inl (tests.is_number t.Semicolon u is))
after_part_first u (inr (below, inl is)) = after_keyword u (into (these (number_of t.Import ∷ [])) (these (number_of t.Import ∷ Tops)) refl (Some u) (number_among t.Import u is))
after_part_first u (inr (below, inr (inl top))) = after_keyword u (into (these Tops) (these (number_of t.Import ∷ Tops)) refl (Some u) (top_number u top))
after_part_first u (inr (below, inr (inr stands))) = next_after u (inr (below, later_no_dot u stands.later, stands.starts))

begins_next : (d : ℕ) (may : Bool) → Begins NextFirst (Next (P_of d may))
begins_next d may us x (inl (u, p, vs, cut, takes, r)) = (u, vs, cut, inl (mark_is t.Semicolon u p takes))
begins_next d may us x (inr r) = let (u, vs, cut, h) = begins_lower d may us x r in (u, vs, cut, inr h)

-- ---- whole clients

abbrev Spotted : ℕ → PartSpot → Rule ModulePart
Spotted d leading = P_of d true
Spotted d (further may) = Next (P_of d may)

abbrev spotted : ℕ → PartSpot → Reader ModulePart
spotted d leading = part d true
spotted d (further may) = next (part d may)

abbrev SpotFirst : PartSpot → Piece → Type 0
SpotFirst leading u = PartFirst u
SpotFirst (further may) u = NextFirst u

right_spot : (d n : ℕ) (at : PartSpot) → ReadsRule n AfterStmt (Spotted d at) (Spotted (suc d) at) (spotted d at)
right_spot d n leading = right_part d n true
right_spot d n (further may) = right_next d n may

deeper_spot : (d : ℕ) (at : PartSpot) → GrowsWithNesting (spotted d at) (spotted (suc d) at)
deeper_spot d leading = deeper_part d true
deeper_spot d (further may) = deeper_next d may

begins_spot : (d : ℕ) (at : PartSpot) → Begins (SpotFirst at) (Spotted d at)
begins_spot d leading = begins_part d true
begins_spot d (further may) = begins_next d may

full_spot : (d : ℕ) (at : PartSpot) (x : ModulePart) → Spotted d at [] x → ⊥
full_spot d leading x r = let (u, vs, cut, h) = begins_part d true [] x r in cc
full_spot d (further may) x r = let (u, vs, cut, h) = begins_next d may [] x r in cc

never_leading : (at : PartSpot) (x : ModulePart) (u : Piece) → SpotFirst (after_part at x) u → NextFirst u
never_leading at (items is) u h = h
never_leading leading (imports n) u h = h
never_leading (further may) (imports n) u h = h

right_client : (d n : ℕ) → ReadsRule n End (grammar.Parts BlockAt S_at form.Client d) (grammar.Parts BlockAt S_at form.Client (suc d)) (read.parts block_at s_at form.Client d)
unfolding read.parts read.part_at read.part_of
right_client d n = right_tries End AfterStmt (Spotted d) (Spotted (suc d)) (spotted d) after_part SpotFirst (λ n at. right_spot d n at) (full_spot d) (begins_spot (suc d)) refl
    (λ at u stop h. cc) (λ x stop. subst AfterStmt (sym stop) tt) (λ at x u h. after_part_first u (never_leading at x u h)) n leading

deeper_client : (d : ℕ) → GrowsWithNesting (read.parts block_at s_at form.Client d) (read.parts block_at s_at form.Client (suc d))
unfolding read.parts read.part_at read.part_of
deeper_client d = deeper_tries (spotted d) (spotted (suc d)) after_part (deeper_spot d) leading

-- the reader of a client reads the grammar's rule at each nesting
pub client_grammar : GrammarOf End (λ d. grammar.Parts BlockAt S_at form.Client d) (λ d. read.parts block_at s_at form.Client d)
client_grammar = record { right = right_client; deeper = deeper_client }

-- ---- which tokens open a nesting

nest_declared : (d n : ℕ) → ReadsInner d n (D d) (declared d)
nest_declared d n = (parses_declared BlockAt block_at blocks S_at s_at form.Client).chooses.nest d n

nest_stated : (d n : ℕ) → ReadsInner d n (X d) (stated d)
nest_stated d n = nest_made (May d) opens_nesting n (S_at d) (s_at d) (λ x. item.Stmt x ∷ []) (nest_ahead (May d) opens_nesting n is_later (IsStmt false d) (stmt false d) (nest_stmt false d n))

nest_items : (d n : ℕ) → ReadsInner d n (grammar.Items BlockAt S_at form.Client d) (read.items_of block_at s_at form.Client d)
unfolding read.items_of
nest_items d n = nest_choose (May d) opens_nesting n (starts begins_top) (D d) (X d) (declared d) (stated d) (nest_declared d n) (nest_stated d n)

nest_itemed : (d n : ℕ) → ReadsInner d n (Y d) (itemed d)
nest_itemed d n = nest_made (May d) opens_nesting n (grammar.Items BlockAt S_at form.Client d) (read.items_of block_at s_at form.Client d) (λ is. items is) (nest_items d n)

nest_part : (d n : ℕ) (may : Bool) → ReadsInner d n (P_of d may) (part d may)
nest_part d n true = nest_quiet (May d) opens_nesting n (mark t.Import) Imported (Y d) imported (itemed d) (quiet_mark t.Import refl) (λ p. (parses_imported p).chooses.nest d (n - 1)) (nest_itemed d n)
nest_part d n false = nest_ext (May d) opens_nesting n (P_of d false) (itemed d) (part d false) (skipped (mark t.Import) imported (itemed d))
    (nest_by (May d) opens_nesting n (Y d) (P_of d false) (itemed d) (λ us x r. inr r) (nest_itemed d n))

nest_lower : (d n : ℕ) (may : Bool) → ReadsInner d n (Lower d may) (lower d may)
nest_lower d n may = nest_by (May d) opens_nesting n (Below (P_of d may)) (Lower d may) (lower d may) (λ us x r. inl r) (nest_filter (May d) opens_nesting n (λ u. u.below) (P_of d may) (part d may) (nest_part d n may))

nest_next : (d n : ℕ) (may : Bool) → ReadsInner d n (Next (P_of d may)) (next (part d may))
unfolding next
nest_next d n may = nest_quiet (May d) opens_nesting n (mark t.Semicolon) (λ _. P_of d may) (Lower d may) (λ _. part d may) (lower d may) (quiet_mark t.Semicolon refl) (λ _. nest_part d (n - 1) may) (nest_lower d n may)

nest_spot : (d n : ℕ) (at : PartSpot) → ReadsInner d n (Spotted d at) (spotted d at)
nest_spot d n leading = nest_part d n true
nest_spot d n (further may) = nest_next d n may

pub nest_client : (d n : ℕ) → ReadsInner d n (grammar.Parts BlockAt S_at form.Client d) (read.parts block_at s_at form.Client d)
unfolding read.parts read.part_at read.part_of
nest_client d n = nest_tries (May d) opens_nesting AfterStmt (Spotted d) (Spotted (suc d)) (spotted d) after_part SpotFirst (λ n at. right_spot d n at) (full_spot d) (begins_spot (suc d)) (λ n at. nest_spot d n at) n leading
