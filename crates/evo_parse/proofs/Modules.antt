-- That a text spells one module, or has one first fault.
use Rattle.std.proofs.Common.{◌≡◌, ℕ, List, Option, Some, None, refl, sym, ◌∙◌, ap, ap₂, subst}
use Rattle.evo_base.specs.declared.token.Token.{Token}
use Rattle.evo_base.specs.declared.place.Place.{Place}
use Rattle.evo_base.specs.declared.fault_kind.FaultKind.{FaultKind}
use Rattle.evo_lex.proofs.Cuts as cuts
use Rattle.evo_combinators.specs.Contract.{OneOutcome}
use Rattle.evo_combinators.proofs.Answers.{outcomes}
use Rattle.evo_base.specs.declared.place.Release.{Release}
use Rattle.evo_tree.specs.declared.module.Form.{Form}
use Rattle.evo_tree.specs.declared.module.Form.TheVariants as form
use Rattle.evo_tree.specs.declared.module.ModuleTree.{ModuleTree}
use Rattle.evo_tree.specs.declared.module.SourceFault.{SourceFault}
use Rattle.evo_tree.specs.Pieces.{Piece, pieces, opens_nesting}
use Rattle.evo_tree.specs.Modules.{IsNamed, nesting, imports_of, items_of}
use Rattle.evo_heading.proofs.Headings.{headed_once}
use Rattle.evo_parse_expr.specs.Contract.{place_at}
use Rattle.evo_parse_decl.specs.Closed.{block_at, stmt_at}
use Rattle.evo_parse_decl.specs.ReadModules.{parts}
use Rattle.evo_parse_decl.proofs.ModuleParts.{End}
use Rattle.evo_parse_decl.proofs.Whole.{module_grammar}
use Rattle.evo_parse.specs.Contract.{PartsIn, IsRefusedIn, IsDeepIn}
use Rattle.evo_parse.specs.Text.{lexical, refused, deep, OneModule, NoFault, OneFault}

one : (f : Form) (ps : List Piece) → OneOutcome opens_nesting (PartsIn f) nesting ps
one f ps = outcomes End opens_nesting (PartsIn f) (λ d. parts block_at stmt_at f d) (module_grammar f) nesting ps

named_once : (text : List ℕ) (f : Form) (a b : List ℕ) (r s : Option Release) → IsNamed text f a r → IsNamed text f b s → (a ≡ b) × (r ≡ s)
named_once text (form.Library n) a b r s x y = (x.0 ∙ sym y.0, x.1 ∙ sym y.1)
named_once text form.Client a b r s x y = (x.0 ∙ sym y.0, x.1 ∙ sym y.1)
named_once text form.Interface a b None s x y = absurd x
named_once text form.Interface a b (Some r) None x y = absurd y
named_once text form.Interface a b (Some r) (Some s) x y = let (same, released) = headed_once text a b r s x y in (same, ap (λ z. Some z) released)

-- modules with the same parts
same_module : (m n : ModuleTree) → m.form ≡ n.form → m.name ≡ n.name → m.release ≡ n.release → m.imports ≡ n.imports → m.items ≡ n.items → m ≡ n
same_module m n a b c d e =
    ap (λ x. record { form = x; name = m.name; release = m.release; imports = m.imports; items = m.items }) a
    ∙ ap (λ x. record { form = n.form; name = x; release = m.release; imports = m.imports; items = m.items }) b
    ∙ ap (λ x. record { form = n.form; name = n.name; release = x; imports = m.imports; items = m.items }) c
    ∙ ap (λ x. record { form = n.form; name = n.name; release = n.release; imports = x; items = m.items }) d
    ∙ ap (λ x. record { form = n.form; name = n.name; release = n.release; imports = n.imports; items = x }) e

pub one_module : OneModule
one_module text f m n s r =
    let same : s.tokens ≡ r.tokens = cuts.one_cut text s.tokens r.tokens s.cut r.cut in
    let parts : s.parts ≡ r.parts = (one f (pieces text r.tokens)).spelled s.parts r.parts (subst (λ us. PartsIn f nesting (pieces text us) s.parts) same s.spelled) r.spelled in
    let (names, releases) = named_once text f m.name n.name m.release n.release s.named r.named in
    same_module m n (s.form_is ∙ sym r.form_is) names releases (s.imports_are ∙ ap imports_of parts ∙ sym r.imports_are) (s.items_are ∙ ap items_of parts ∙ sym r.items_are)

pub no_fault : NoFault
no_fault text f m _ s (lexical bad) = cuts.fault_no_cut text _ _ s.tokens bad s.cut
no_fault text f m _ s (refused {tokens = us} {end = end} cut bad) =
    (one f (pieces text us)).spelled_or_refused s.parts end (subst (λ vs. PartsIn f nesting (pieces text vs) s.parts) (cuts.one_cut text s.tokens us s.cut cut) s.spelled) bad
no_fault text f m _ s (deep {tokens = us} {end = end} cut bad) =
    (one f (pieces text us)).spelled_or_deep s.parts end (subst (λ vs. PartsIn f nesting (pieces text vs) s.parts) (cuts.one_cut text s.tokens us s.cut cut) s.spelled) bad

same_fault : (k k' : FaultKind) (p p' : Place) → k ≡ k' → p ≡ p' → ◌≡◌ {A = SourceFault} (record { kind = k; place = p }) (record { kind = k'; place = p' })
same_fault k k' p p' a b = ap₂ (λ x y. record { kind = x; place = y }) a b

placed : (text : List ℕ) (us vs : List Token) (i j : ℕ) → us ≡ vs → i ≡ j → place_at text us i ≡ place_at text vs j
placed text us vs i j a b = ap₂ (place_at text) a b

pub one_fault : OneFault
one_fault text f _ _ (lexical a) (lexical b) = let (kinds, places) = cuts.one_fault text _ _ _ _ a b in same_fault _ _ _ _ kinds places
one_fault text f _ _ (lexical a) (refused {tokens = us} c b) = absurd (cuts.fault_no_cut text _ _ us a c)
one_fault text f _ _ (lexical a) (deep {tokens = us} c b) = absurd (cuts.fault_no_cut text _ _ us a c)
one_fault text f _ _ (refused {tokens = us} c a) (lexical b) = absurd (cuts.fault_no_cut text _ _ us b c)
one_fault text f _ _ (deep {tokens = us} c a) (lexical b) = absurd (cuts.fault_no_cut text _ _ us b c)
one_fault text f _ _ (refused {tokens = us} {end = i} c a) (refused {tokens = vs} {end = j} d b) =
    let same = cuts.one_cut text us vs c d in
    let ends = (one f (pieces text vs)).refused i j (subst (λ ws. IsRefusedIn f (pieces text ws) i) same a) b in
    same_fault _ _ _ _ refl (placed text us vs i j same ends)
one_fault text f _ _ (deep {tokens = us} {end = i} c a) (deep {tokens = vs} {end = j} d b) =
    let same = cuts.one_cut text us vs c d in
    let ends = (one f (pieces text vs)).deep i j (subst (λ ws. IsDeepIn f (pieces text ws) i) same a) b in
    same_fault _ _ _ _ refl (placed text us vs i j same ends)
one_fault text f _ _ (refused {tokens = us} {end = i} c a) (deep {tokens = vs} {end = j} d b) =
    absurd ((one f (pieces text vs)).refused_or_deep i j (subst (λ ws. IsRefusedIn f (pieces text ws) i) (cuts.one_cut text us vs c d) a) b)
one_fault text f _ _ (deep {tokens = us} {end = i} c a) (refused {tokens = vs} {end = j} d b) =
    absurd ((one f (pieces text us)).refused_or_deep j i (subst (λ ws. IsRefusedIn f (pieces text ws) j) (sym (cuts.one_cut text us vs c d)) b) a)
