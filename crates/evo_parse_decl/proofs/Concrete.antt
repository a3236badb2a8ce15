-- The reader of blocks keeps what that of declarations asks for.
use Rattle.std.proofs.Common.{◌≡◌, ℕ, zero, suc, Bool, true, false, List, [], ◌∷◌, ◌++◌, refl, ◌∙◌, ap, inl, inr}
use Rattle.evo_combinators.specs.Rule.{TokenThen, IsViablePrefix}
use Rattle.evo_combinators.proofs.Laws.{right_stop}
use Rattle.evo_tree.specs.declared.expression.Expr.{Expr}
use Rattle.evo_tree.specs.declared.statement.Block.{Block}
use Rattle.evo_tree.specs.declared.statement.Stmt.{Stmt}
use Rattle.evo_tree.specs.declared.statement.Stmt.TheVariants as s
use Rattle.evo_tree.specs.declared.terminal.Terminal.TheVariants as t
use Rattle.evo_tree.specs.Pieces.{Piece, is_terminal, mark, is_identifier}
use Rattle.evo_tree.specs.Expressions.{Rule}
use Rattle.evo_tree.specs.Statements as grammar
use Rattle.evo_tree.specs.Statements.{IsStmt, IsBlock, BlockTail}
use Rattle.evo_tree.specs.Declarations.{is_get}
use Rattle.evo_parse_stmt.specs.Read.{block, block_of}
use Rattle.evo_parse_expr.proofs.ReadsRule.{named_expr}
use Rattle.evo_parse_stmt.proofs.Family.{block_grammar, nest_block}
use Rattle.evo_parse_header.proofs.Sets.{but, In}
use Rattle.evo_parse_expr.proofs.Tests.{mark_is}
use Rattle.evo_parse_header.proofs.Tests.{is_marked, get_utf8, a_piece}
use Rattle.evo_parse_decl.proofs.Accessors.{Blocks}
use Rattle.evo_parse_decl.specs.Closed.{BlockAt, block_at}

-- statements in braces are between them
braced_at : (S : Rule Stmt) (us : List Piece) (x : Block) → TokenThen (mark t.OpenBrace) (BlockTail S) us x →
    (u : Piece) × (vs : List Piece) × (v : Piece) × (us ≡ u ∷ (vs ++ v ∷ [])) × (is_terminal t.OpenBrace u ≡ true) × (is_terminal t.CloseBrace v ≡ true)
braced_at S us x (u, p, vs, cut, takes, (ss, xs, ys, cut', run, (v, q, zs, cut'', takes', (none, e)))) =
    (u, xs, v, cut ∙ ap (λ k. u ∷ k) (cut' ∙ ap (λ k. xs ++ k) (cut'' ∙ ap (λ k. v ∷ k) none)), mark_is t.OpenBrace u p takes, mark_is t.CloseBrace v q takes')

-- a name alone is a statement
named_stmt : (d : ℕ) (v : Piece) → is_identifier v ≡ true → (x : Stmt) × IsStmt false d (v ∷ []) x
unfolding IsStmt
named_stmt zero v is = let (y, e) = named_expr 0 v is in (s.Expr y, inr (inr (inr (inr (inr (inr (inr (inr (y, v ∷ [], [], refl, e, inr (refl, refl))))))))))
named_stmt (suc d) v is = let (y, e) = named_expr (suc d) v is in (s.Expr y, inr (inr (inr (inr (inr (inr (inr (inr (y, v ∷ [], [], refl, e, inr (refl, refl))))))))))

unfoldable a_close : Piece
a_close = a_piece t.CloseBrace []

closed : is_terminal t.CloseBrace a_close ≡ true
unfolding a_close a_piece
closed = refl

pub blocks : Blocks BlockAt block_at
unfolding block_of
blocks = record {
  right = λ d i n. right_stop n _ (In (but [])) (IsBlock i d) (IsBlock i (suc d)) (block i d) (λ x h. tt) refl ((block_grammar i).right d n);
  deeper = λ d i. (block_grammar i).deeper d;
  nest = λ d i n. nest_block i d n;
  shallow = λ i ts. refl;
  braced = braced;
  empty = λ d i u v is is'. (grammar.block u.place [] v.place, inl (u, u.place, v ∷ [], refl, is_marked t.OpenBrace u is, ([], [], v ∷ [], refl, refl, (v, v.place, [], refl, is_marked t.CloseBrace v is', (refl, refl)))));
  begun = begun;
}
  where
    braced : (d : ℕ) (i : Bool) (us : List Piece) (x : Block) → IsBlock i d us x →
        (u : Piece) × (vs : List Piece) × (v : Piece) × (us ≡ u ∷ (vs ++ v ∷ [])) × (is_terminal t.OpenBrace u ≡ true) × (is_terminal t.CloseBrace v ≡ true)
    braced zero i us x (inl none) = absurd none
    braced zero i us x (inr none) = absurd none
    braced (suc d) i us x (inl led) = braced_at (IsStmt i d) us x led
    braced (suc d) i us x (inr none) = absurd none

    begun : (d : ℕ) (u v : Piece) → is_terminal t.OpenBrace u ≡ true → is_get v ≡ true → IsViablePrefix (IsBlock false (suc d)) (u ∷ v ∷ [])
    begun d u v is is' =
        let (x, st) = named_stmt d v (get_utf8 v is') in
        let close = a_close in (
          close ∷ [],
          grammar.block u.place (x ∷ []) close.place,
          inl (u, u.place, v ∷ close ∷ [], refl, is_marked t.OpenBrace u is, (x ∷ [], v ∷ [], close ∷ [], refl, (v ∷ [], [], refl, st, refl), (close, close.place, [], refl, is_marked t.CloseBrace close closed, (refl, refl)))),
        )
