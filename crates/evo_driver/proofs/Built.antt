-- What was loaded can be built.
use Rattle.std.proofs.Common.{◌≡◌, ℕ, Bool, true, false, List, [], ◌∷◌, map, Option, Some, sym, ap, subst}
use Rattle.std.specs.Prelude.{filter, if◌then◌else◌}
use Rattle.std.specs.Str.{bytes_eq}
use Rattle.std.proofs.lemmas.List.Elements.{All-head, All-tail}
use Rattle.evo_first_form.specs.declared.Access.{Access}
use Rattle.evo_first_form.specs.declared.Access.TheVariants as access
use Rattle.evo_first_form.specs.declared.Function.{Function}
use Rattle.evo_first_form.specs.declared.Term.{Term}
use Rattle.evo_first_form.specs.declared.Interface.{Interface}
use Rattle.evo_first_form.specs.Facts.{TermFacts, FunctionFacts, LibraryFacts}
use Rattle.evo_first_form.specs.Copies.{copied_body}
use Rattle.evo_first_form.specs.Interface.{interface_of, declaration_of, declarations_of, is_visible, kept_body}
use Rattle.evo_first_form.specs.Accepted.{IsAcceptedLibrary, IsAcceptedClient}
use Rattle.evo_first_form.specs.Rules.{BreaksNoRule}
use Rattle.evo_first_form.proofs.FactLemmas.{library_fact, client_fact}
use Rattle.evo_first_code.specs.Works.{HaveFacts}
use Rattle.evo_words.specs.declared.words.Job.{Job}
use Rattle.evo_driver.specs.declared.load.Loaded.{Loaded}
use Rattle.evo_driver.specs.Loading.{HasAll, Builds}

kept : (a : Access) (term body : Term) → kept_body a term ≡ Some body → term ≡ body
kept access.Internal term body e = absurd cc
kept access.Public term body e = absurd cc
kept access.Inlinable term body e = cc

-- the bodies in the interface of a library are the library's
have_facts : (fs : List Function) → LibraryFacts fs → HaveFacts (declarations_of fs)
have_facts [] all name body e = absurd cc
have_facts (f ∷ fs) all name body e =
    at (is_visible f.access) (bytes_eq name f.name) e (All-head FunctionFacts f fs all).body (λ q. have_facts fs (All-tail FunctionFacts f fs all) name body q)
  where
    here : (b : Bool) → (if b then kept_body f.access f.body else copied_body (declarations_of fs) name) ≡ Some body → TermFacts f.body → (copied_body (declarations_of fs) name ≡ Some body → TermFacts body) → TermFacts body
    here true q fact more = subst TermFacts (kept f.access f.body body q) fact
    here false q fact more = more q

    at : (v b : Bool) → copied_body (map declaration_of (if v then f ∷ filter (λ (g : Function). is_visible g.access) fs else filter (λ (g : Function). is_visible g.access) fs)) name ≡ Some body
        → TermFacts f.body → (copied_body (declarations_of fs) name ≡ Some body → TermFacts body) → TermFacts body
    at true b q fact more = here (bytes_eq name f.name) q fact more
    at false b q fact more = more q

pub builds_of : (held : List ℕ → Option (List ℕ)) (job : Job) (loaded : Loaded) → HasAll held job loaded → Builds loaded
builds_of held job loaded all =
    let name : loaded.libraries.interface.name ≡ job.library = ap (λ (i : Interface). i.name) all.interface_is in
    let old = all.accepts.passes.both.old_holds.2.is in
    let new = all.accepts.passes.both.new_holds.2.is in
    let client = all.accepts.client_holds.2.is in
    record {
      interface = all.accepted;
      client = subst (λ (i : Interface). IsAcceptedClient i loaded.client) (sym all.interface_is) client.accepted;
      library = subst (λ (n : List ℕ). IsAcceptedLibrary n loaded.libraries.functions) (sym name) new.accepted;
      bodies = subst (λ (i : Interface). HaveFacts i.functions) (sym all.interface_is) (have_facts all.old (library_fact old.tree all.old old.form_is));
      prints = client_fact client.tree loaded.client client.form_is;
      functions = library_fact new.tree loaded.libraries.functions new.form_is;
      keeps = subst (λ (i : Interface). BreaksNoRule i (interface_of i.name loaded.libraries.functions)) (sym all.interface_is) all.accepts.passes.keeps;
    }
