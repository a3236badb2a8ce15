-- Accessors and bodies are written.
use Rattle.std.proofs.Common.{◌≡◌, ℕ, zero, suc, ◌+◌, [], ◌∷◌, ◌++◌, Bool, true, false, codes, Option, Some, None, refl, sym, ◌∙◌, ap, ap₂, subst, append_assoc, append-nil}
use Rattle.std.specs.List.{flat_map}
use Rattle.std.specs.Option.{option_map}
use Rattle.evo_combinators.specs.Rule.{Fail, Or}
use Rattle.evo_tree.specs.declared.statement.Block.{Block}
use Rattle.evo_tree.specs.declared.declaration.Accessors.{Accessors}
use Rattle.evo_tree.specs.declared.declaration.Accessors.TheVariants as accessors
use Rattle.evo_tree.specs.declared.terminal.Terminal.TheVariants as t
use Rattle.evo_tree.specs.Pieces.{mark}
use Rattle.evo_tree.specs.Expressions.{Rule, Nested}
use Rattle.evo_tree.specs.Statements.{IsBlock}
use Rattle.evo_tree.specs.Declarations.{Within, Unless, begins_accessors, Stored, Body, Setter, BlocksTail, Getter, Braces, IsAccessors}
use Rattle.evo_tree.specs.Bare.{bare_block, bare_accessors}
use Rattle.evo_tree.specs.Canonical.{Text, indent, line, optional, block_text, body_text, accessors_text}
use Rattle.evo_round_trip.proofs.Printed.{any, is_apart, is_flush, is_free, leads_free}
use Rattle.evo_round_trip.proofs.Prints.{Prints, Writes, print_only, print_nothing, print_or, print_led, print_nested, print_then, print_after, print_behind, print_firm, print_more}
use Rattle.evo_round_trip.proofs.Spellings.{sign, named}
use Rattle.evo_round_trip.proofs.Tokens.{get_is_name, set_is_name}
use Rattle.evo_round_trip.proofs.TakenTokens.{taken_mark, taken_word}
use Rattle.evo_round_trip.proofs.Heads.{apart_free, leads_apart}
use Rattle.evo_round_trip.proofs.StatementTrees.{SameBlock}
use Rattle.evo_round_trip.proofs.PrintedBlocks.{feed, indent_gap}
use Rattle.evo_round_trip.proofs.PrintedStatements.{blocks_print}

-- a block of statements, by whether initialisers may be called in it
abbrev pub Blocks : ℕ → Bool → Rule Block
Blocks d inits = IsBlock inits d

block_behind : (inits : Bool) (d n : ℕ) → Writes true false is_apart (λ b. codes " " ++ block_text b n) SameBlock (Blocks d inits) (Blocks d inits)
block_behind inits d n = print_firm (print_behind (codes " ") refl refl (blocks_print inits d n))

-- ---- bodies

abbrev pub SameBody : Option Block → Option Block → Type 0
SameBody a b = option_map bare_block a ≡ option_map bare_block b

body_prints : (inits : Bool) (d n : ℕ) (b : Bool) → Writes true true is_apart (body_text n) SameBody (Body Blocks d inits b) (Body Blocks d inits b)
body_prints inits d n true = print_then {q = is_free} {e' = true} (block_behind inits d n) (λ w i. i) (λ w i. i) (λ b. print_only {p = is_free} (append-nil (codes " " ++ block_text b n)) (λ a near. ap (λ v. Some v) near.1))
body_prints inits d n false = print_only refl (λ a near. refl)

-- a body, where one is told whether there is one
pub body_told : (inits : Bool) (d n : ℕ) (b : Bool) → Prints true any true is_apart (λ z. z) (body_text n) (λ b'. b ≡ b') SameBody (Body Blocks d inits b) (λ b'. Body Blocks d inits b')
body_told inits d n b = record {
  holds = λ us x gen fst s.
      let (ws, written, sound, begun, make) = (body_prints inits d n b).holds us x gen fst s in
      (ws, written, sound, begun, λ a near ms f. let (x', s', same) = make tt tt ms f in (x', subst (λ z. Body Blocks d inits z ms x') near s', same));
}

-- ---- accessors

abbrev pub SameAccessors : Accessors → Accessors → Type 0
SameAccessors a b = bare_accessors a ≡ bare_accessors b

-- `get` and `set` without blocks
gets_print : (d n : ℕ) → Writes true false is_apart (accessors_text n) SameAccessors (Braces Blocks d false) (Braces Blocks d false)
gets_print d n = print_or
    (print_nested d (print_led {e' = false} {q = is_apart} (taken_mark t.OpenBrace (codes " ") refl refl (λ u g i. refl)) (λ c ws b. leads_apart _ (sign (codes " ") t.OpenBrace) ws refl b)
    (λ c. print_led {e' = false} {q = is_apart} (taken_word (codes "get") (codes " ") refl get_is_name refl) (λ c' ws b. leads_apart _ (named (codes " ") (codes "get")) ws refl b)
    (λ c'. print_or
    (print_led {e' = false} {q = is_apart} (taken_word (codes "set") (codes " ") refl set_is_name refl) (λ c'' ws b. leads_apart _ (named (codes " ") (codes "set")) ws refl b)
    (λ c''. print_led {e' = true} {q = is_free} (taken_mark t.CloseBrace (codes " ") refl refl (λ u g i. refl)) (λ k ws b. leads_free _ (sign (codes " ") t.CloseBrace) ws refl b) (λ k. print_only refl (λ a near. refl))))
    (print_led {e' = true} {q = is_free} (taken_mark t.CloseBrace (codes " ") refl refl (λ u g i. refl)) (λ k ws b. leads_free _ (sign (codes " ") t.CloseBrace) ws refl b) (λ k. print_only refl (λ a near. refl)))))))
    print_nothing

within_prints : (d n : ℕ) → Writes true false is_apart (λ b. codes " " ++ block_text b n) SameBlock (Within (λ e. Blocks e false) d) (Within (λ e. Blocks e false) d)
within_prints zero n = record { holds = λ us b gen fst s. absurd s }
within_prints (suc d) n = block_behind false d n

-- a setter on a line of its own
setter_text : ℕ → Option Block → Text
setter_text n b = optional (λ c. feed (n + 1) ++ (codes "set " ++ block_text c (n + 1))) b

setter_prints : (d n : ℕ) → Writes true true is_apart (setter_text n) SameBody (Setter Blocks d) (Setter Blocks d)
unfolding setter_text
setter_prints d n = print_or
    (print_led {e' = false} {q = is_apart} (taken_word (codes "set") (feed (n + 1)) (indent_gap (n + 1)) set_is_name refl) (λ c ws b. leads_apart _ (named (feed (n + 1)) (codes "set")) ws refl b)
    (λ c. print_then {q = is_free} {e' = true} (within_prints d (n + 1)) (λ w i. i) (λ w i. i)
    (λ b. print_only {p = is_free} (ap (λ z. feed (n + 1) ++ (codes "set " ++ z)) (append-nil (block_text b (n + 1)))) (λ a near. ap (λ v. Some v) near.1))))
    (print_only refl (λ a near. refl))

blocks_leaf : (n : ℕ) (g : Block) (b : Option Block) → codes " {" ++ (feed (n + 1) ++ (codes "get" ++ ((codes " " ++ block_text g (n + 1)) ++ (setter_text n b ++ (feed n ++ (codes "}" ++ [])))))) ≡ accessors_text n (accessors.Blocks g b)
unfolding setter_text
blocks_leaf n g None = simp (append_assoc, append-nil)
blocks_leaf n g (Some b) =
    ap (λ z. codes " {" ++ (feed (n + 1) ++ (codes "get" ++ ((codes " " ++ block_text g (n + 1)) ++ z))))
    (append_assoc (feed (n + 1)) (codes "set " ++ block_text b (n + 1)) (feed n ++ codes "}") ∙ ap (λ z. feed (n + 1) ++ z) (append_assoc (codes "set ") (block_text b (n + 1)) (feed n ++ codes "}")))
    ∙ last (block_text g (n + 1)) (block_text b (n + 1))
  where
    last : (v w : Text) → codes " {" ++ (feed (n + 1) ++ (codes "get" ++ ((codes " " ++ v) ++ (feed (n + 1) ++ (codes "set " ++ (w ++ (feed n ++ codes "}"))))))) ≡
        codes " " ++ (codes "{\n" ++ flat_map (λ (l : ℕ → Text). l (n + 1)) ((λ d. line d (codes "get" ++ codes " " ++ v)) ∷ (λ d. line d (codes "set" ++ codes " " ++ w)) ∷ []) ++ indent n ++ codes "}")
    last v w = simp (append_assoc, append-nil)

lists_print : (d n : ℕ) → Writes true false is_apart (accessors_text n) SameAccessors (Or (Nested d (mark t.OpenBrace) (λ _. BlocksTail Blocks d)) Fail) (Or (Nested d (mark t.OpenBrace) (λ _. BlocksTail Blocks d)) Fail)
lists_print d n = print_or
    (print_nested d (print_led {e' = false} {q = is_apart} (taken_mark t.OpenBrace (codes " ") refl refl (λ u g i. refl)) (λ c ws b. leads_apart _ (sign (codes " ") t.OpenBrace) ws refl b)
    (λ c. print_led {e' = false} {q = is_apart} (taken_word (codes "get") (feed (n + 1)) (indent_gap (n + 1)) get_is_name refl) (λ c' ws b. leads_apart _ (named (feed (n + 1)) (codes "get")) ws refl b)
    (λ c'. print_then {q = is_apart} {e' = false} (within_prints d (n + 1)) (λ w i. i) apart_free
    (λ g. print_after {q = is_apart} (setter_prints d n) (λ w i. i) apart_free (λ w i. i)
    (λ b. print_led {e' = true} {q = is_free} (taken_mark t.CloseBrace (feed n) refl (indent_gap n) (λ u g i. refl)) (λ k ws b. leads_free _ (sign (feed n) t.CloseBrace) ws refl b)
    (λ k. print_only (blocks_leaf n g b) (λ a near. ap₂ (λ v w. accessors.Blocks v w) near.0.0.1 near.0.1))))))))
    print_nothing

module _ (getter : (d n : ℕ) → Writes false false is_flush (λ b. block_text b n) SameBlock (Unless begins_accessors (IsBlock false d)) (Unless begins_accessors (IsBlock false d))) where
  getter_prints : (d n : ℕ) → Writes true false is_apart (accessors_text n) SameAccessors (Getter Blocks d) (Getter Blocks d)
  getter_prints d n = record {
    holds = λ us x gen fst s.
        let (none, (b, vs, rest, cut, block, (empty, is))) = s in
        let all : us ≡ vs = cut ∙ ap (λ z. vs ++ z) empty ∙ append-nil vs in
        let (ws, written, sound, begun, make) = (print_firm (print_behind (codes " ") refl refl (getter d n))).holds us b gen fst (none, subst (λ z. IsBlock false d z b) (sym all) block) in (
          ws,
          written ∙ ap (accessors_text n) (sym is),
          sound,
          begun,
          λ a near ms f.
              let (b', (none', block'), same) = make tt tt ms f in
              (accessors.Block b', (none', (b', ms, [], sym (append-nil ms), block', (refl, refl))), ap bare_accessors is ∙ ap (λ v. accessors.Block v) same),
        );
  }

  braces_print : (d n : ℕ) (b : Bool) → Writes true false is_apart (accessors_text n) SameAccessors (Braces Blocks d b) (Braces Blocks d b)
  braces_print d n true = print_or (lists_print d n) (getter_prints d n)
  braces_print d n false = gets_print d n

  stored_prints : (n : ℕ) (b : Bool) → Writes true true is_apart (accessors_text n) SameAccessors (Stored b) (Stored b)
  stored_prints n true = print_only refl (λ a near. refl)
  stored_prints n false = print_nothing

  accessors_print : (d n : ℕ) (b s : Bool) → Writes true true is_apart (accessors_text n) SameAccessors (IsAccessors Blocks d b s) (IsAccessors Blocks d b s)
  accessors_print d n b s = print_or (print_more (λ h. absurd (cc)) (λ w i. i) (braces_print d n b)) (stored_prints n s)

  -- accessors, where one is told whether they have bodies, and whether there may be none
  pub accessors_told : (d n : ℕ) (b s : Bool) → Prints true any true is_apart (λ z. z) (accessors_text n) (λ (x : Bool × Bool). (b ≡ x.0) × (s ≡ x.1)) SameAccessors (IsAccessors Blocks d b s) (λ x. IsAccessors Blocks d x.0 x.1)
  accessors_told d n b s = record {
    holds = λ us x gen fst r.
        let (ws, written, sound, begun, make) = (accessors_print d n b s).holds us x gen fst r in
        (ws, written, sound, begun, λ a near ms f. let (x', r', same) = make tt tt ms f in (x', subst (λ z. IsAccessors Blocks d z a.1 ms x') near.0 (subst (λ z. IsAccessors Blocks d b z ms x') near.1 r'), same));
  }
