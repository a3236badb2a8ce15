-- What the outcomes of the reader of modules say of the grammar.
use Rattle.std.proofs.Common.{◌≡◌, ℕ, suc, ◌-◌, List, [], ◌∷◌, length, Option, None, Ok, Err, refl, sym, ◌∙◌, ap, subst}
use Rattle.evo_base.specs.declared.token.Token.{Token}
use Rattle.evo_lex.specs.Tokenization.{Tokenization}
use Rattle.evo_combinators.specs.declared.Fault.TheVariants.{Grammar, Deep}
use Rattle.evo_combinators.specs.declared.ReadError.{ReadError}
use Rattle.evo_combinators.specs.declared.ReadError.TheVariants as errors
use Rattle.evo_combinators.specs.Reader.{Outcome, Reader, Fails}
use Rattle.evo_combinators.proofs.Says as says
use Rattle.evo_base.specs.declared.place.Release.{Release}
use Rattle.evo_tree.specs.declared.name.Identifier.{Identifier}
use Rattle.evo_tree.specs.declared.module.Form.{Form}
use Rattle.evo_tree.specs.declared.module.Item.{Item}
use Rattle.evo_tree.specs.declared.module.ModulePart.{ModulePart}
use Rattle.evo_tree.specs.declared.module.ModuleTree.{ModuleTree}
use Rattle.evo_tree.specs.Pieces.{Piece, pieces, opens_nesting}
use Rattle.evo_tree.specs.Modules.{Spells, IsNamed, nesting, imports_of, items_of}
use Rattle.evo_tree.specs.Spelled.{IsSpelled}
use Rattle.evo_parse_expr.specs.Fault.{Places}
use Rattle.evo_parse_expr.specs.declared.parse.ParseFault.{ParseFault}
use Rattle.evo_parse_expr.proofs.Nesting.{May}
use Rattle.evo_parse_expr.proofs.Slices.{length_pieces}
use Rattle.evo_parse_decl.specs.Closed.{block_at, stmt_at}
use Rattle.evo_parse_decl.specs.ReadModules.{parts}
use Rattle.evo_parse_decl.proofs.ModuleParts.{End}
use Rattle.evo_parse_decl.proofs.Whole.{module_grammar, nest_module}
use Rattle.evo_parse.specs.Contract.{PartsIn, IsRefusedIn, IsDeepIn, IsFault, all_of}

module _ (f : Form) where
  abbrev pub reader : ℕ → Reader Piece (List ModulePart)
  reader d = parts block_at stmt_at f d

  module _ (ps : List Piece) where
    pub spelled : (x : List ModulePart) → all_of (reader nesting ps) ≡ Ok x → PartsIn f nesting ps x
    spelled x is = go (reader nesting ps) refl is
      where
        go : (o : Outcome Piece (List ModulePart)) → reader nesting ps ≡ o → all_of o ≡ Ok x → PartsIn f nesting ps x
        go (Ok (y, [])) e is = let same : y ≡ x = cc in says.whole End (May nesting) opens_nesting (PartsIn f) reader (module_grammar f) nesting (nest_module f nesting) ps x (e ∙ ap (λ z. Ok (z, [])) same)
        go (Ok (y, t ∷ rest)) e is = absurd (cc)
        go (Err k) e is = absurd (cc)

    refused : (left : ℕ) → all_of (reader nesting ps) ≡ Err (Grammar left) → IsRefusedIn f ps (length ps - left)
    refused left is = go (reader nesting ps) refl is
      where
        go : (o : Outcome Piece (List ModulePart)) → reader nesting ps ≡ o → all_of o ≡ Err (Grammar left) → IsRefusedIn f ps (length ps - left)
        go (Ok (y, [])) e is = absurd (cc)
        go (Ok (y, t ∷ rest)) e is =
            let same : suc (length rest) ≡ left = cc in
            subst (λ n. IsRefusedIn f ps (length ps - n)) same (says.left_over End (May nesting) opens_nesting (PartsIn f) reader (module_grammar f) nesting (nest_module f nesting) ps y t rest e)
        go (Err (Grammar k)) e is = let same : k ≡ left = cc in
            subst (λ n. IsRefusedIn f ps (length ps - n)) same (says.refused_in End (May nesting) opens_nesting (PartsIn f) reader (module_grammar f) nesting (nest_module f nesting) ps k e)
        go (Err (Deep k)) e is = absurd (cc)

    deep : (left : ℕ) → all_of (reader nesting ps) ≡ Err (Deep left) → IsDeepIn f ps (length ps - left)
    deep left is = go (reader nesting ps) refl is
      where
        go : (o : Outcome Piece (List ModulePart)) → reader nesting ps ≡ o → all_of o ≡ Err (Deep left) → IsDeepIn f ps (length ps - left)
        go (Ok (y, [])) e is = absurd (cc)
        go (Ok (y, t ∷ rest)) e is = absurd (cc)
        go (Err (Grammar k)) e is = absurd (cc)
        go (Err (Deep k)) e is = let same : k ≡ left = cc in
            subst (λ n. IsDeepIn f ps (length ps - n)) same (says.deep_in End (May nesting) opens_nesting (PartsIn f) reader (module_grammar f) nesting (nest_module f nesting) ps k e)

  -- the fault that a place so many tokens before the end says
  pub faulty : (text : List ℕ) (tokens : List Token) (error : ReadError) (p : ParseFault) → Fails error (all_of (reader nesting (pieces text tokens))) → Places text tokens error p → IsFault text tokens f p
  faulty text tokens errors.Memory p fails places = subst (IsFault text tokens f) (sym places) tt
  faulty text tokens (errors.Fault (Grammar left)) p fails places =
      let same = length_pieces text None tokens in
      subst (IsFault text tokens f) (sym places) (length tokens - left, subst (λ n. IsRefusedIn f (pieces text tokens) (n - left)) same (refused (pieces text tokens) left fails), refl)
  faulty text tokens (errors.Fault (Deep left)) p fails places =
      let same = length_pieces text None tokens in
      subst (IsFault text tokens f) (sym places) (length tokens - left, subst (λ n. IsDeepIn f (pieces text tokens) (n - left)) same (deep (pieces text tokens) left fails), refl)

  -- the module whose parts all tokens of a text spell
  pub spells : (text : List ℕ) (tokens : List Token) (ps : List Piece) (name : List ℕ) (release : Option Release) (imports : List Identifier) (items : List Item) (found : List ModulePart)
      → Tokenization text tokens → ps ≡ pieces text tokens → all_of (reader nesting ps) ≡ Ok found → IsNamed text f name release → imports ≡ imports_of found → items ≡ items_of found
      → Spells text f (record { form = f; name = name; release = release; imports = imports; items = items })
  spells text tokens ps name release imports items found cut same read named imports_are items_are = record {
    tokens = tokens;
    cut = cut;
    parts = found;
    spelled = spelled (pieces text tokens) found (ap (λ (us : List Piece). all_of (reader nesting us)) (sym same) ∙ read);
    form_is = refl;
    named = named;
    imports_are = imports_are;
    items_are = items_are;
  }

-- a tree that a text spells is one that some text spells
pub of_text : (text : List ℕ) (f : Form) (m : ModuleTree) → Spells text f m → IsSpelled m
of_text text f m spells = record { text = text; form = f; spelled = m; spells = spells; same = refl }
