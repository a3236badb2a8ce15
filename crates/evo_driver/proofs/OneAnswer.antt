-- Words and files that tell what they hold have one answer at most: each file is one library or client, or wrong in one way.
use Rattle.std.proofs.Common.{◌≡◌, ◌<◌, ◌≤◌, ℕ, ◌+◌, List, take, length, Option, Some, None, refl, sym, ◌∙◌, ap, subst, inl, inr, arith}
use Rattle.std.specs.Prelude.{IsSome, ◌⊎◌}
use Rattle.evo_tree.specs.declared.module.Form.{Form}
use Rattle.evo_tree.specs.declared.module.Form.TheVariants as form
use Rattle.evo_tree.specs.declared.module.ModuleTree.{ModuleTree}
use Rattle.evo_tree.specs.declared.module.SourceFault.{SourceFault}
use Rattle.evo_tree.specs.Modules.{Spells}
use Rattle.evo_parse.specs.Text.{IsTextFault, OneModule, NoFault, OneFault}
use Rattle.evo_first_form.specs.declared.Function.{Function}
use Rattle.evo_first_form.specs.declared.Client.{Client}
use Rattle.evo_first_form.specs.declared.Interface.{Interface}
use Rattle.evo_first_form.specs.FirstForm.{library_of, client_of}
use Rattle.evo_first_form.specs.Interface.{interface_of}
use Rattle.evo_first_form.specs.Rules.{BreaksNoRule, report_of}
use Rattle.evo_iface.specs.Text.{interface_text}
use Rattle.evo_front.specs.Texts.{file_limit, interface_limit, IsLibraryText, IsClientText, IsUnbuiltLibrary, IsUnbuiltClient}
use Rattle.evo_first_code.specs.Meaning.{Ran, Ending, done, spent, stuck, run_of}
use Rattle.evo_base.specs.Content.{ReadsUpTo}
use Rattle.evo_words.specs.declared.words.Job.{Job}
use Rattle.evo_words.specs.Words.{IsEvolve}
use Rattle.evo_words.specs.Laws.{OneJob}
use Rattle.evo_driver.specs.declared.stop.Input.{Input}
use Rattle.evo_driver.specs.declared.stop.Input.TheVariants as input
use Rattle.evo_driver.specs.declared.stop.Refusal.{Refusal}
use Rattle.evo_driver.specs.declared.stop.Refusal.TheVariants as refusal
use Rattle.evo_driver.specs.Files.{Holds, HoldsLibrary, HoldsClient, HoldsBoth, Passes, Breaks, Accepts, Refuses, IsShortLibrary, IsLongLibrary, IsNoLibrary, IsWrongLibrary, IsShortClient, IsNoClient, IsWrongClient, unbuilt, name_of}
use Rattle.evo_driver.specs.Files.Refuses.{old_is_wrong, new_is_wrong, client_is_wrong}
use Rattle.evo_driver.specs.Answer.{Answer, Answers, EndsWith, AnswersRun, refused_answer, report_answer}
use Rattle.evo_driver.specs.Answer.Answers.{no_command, refused, broken, ran}
use Rattle.evo_driver.specs.Laws.{OneAnswer}

-- what a file that tells its text holds is one text
one_text : (held : Option (List ℕ)) (n : ℕ) (t u : List ℕ) → IsSome held → ReadsUpTo held n t → ReadsUpTo held n u → t ≡ u
one_text None n t u told p q = absurd cc
one_text (Some h) n t u told p q = p ∙ sym q

-- two facts of what a file holds are of one text
together : (held : Option (List ℕ)) (P Q : List ℕ → Type 0) → IsSome held → Holds held P → Holds held Q → (text : List ℕ) × P text × Q text
together held P Q told p q = (p.0, p.2, subst Q (one_text held (file_limit + 1) q.0 p.0 told q.1 p.1) q.2)

one_ending : (out : List ℕ) (e : Ending) (a b : Answer) → EndsWith out e a → EndsWith out e b → a ≡ b
one_ending out done a b p q = p ∙ sym q
one_ending out spent a b p q = p ∙ sym q
one_ending out stuck a b p q = absurd p

one_some : {A : Type 0} (x y : A) (o : Option A) → o ≡ Some x → o ≡ Some y → x ≡ y
one_some x y o p q = cc

too_short : (n m : ℕ) → n ≤ m → m < n → ⊥
too_short n m p q = omega arith

module _ (one_module : OneModule) (no_fault : NoFault) (one_fault : OneFault) where
  one_library : (library text : List ℕ) (f g : List Function) → IsLibraryText library text f → IsLibraryText library text g → f ≡ g
  one_library library text f g p q =
      let same : p.tree ≡ q.tree = one_module text (form.Library library) p.tree q.tree p.spells q.spells in
      one_some f g (library_of q.tree) (subst (λ (m : ModuleTree). library_of m ≡ Some f) same p.form_is) q.form_is

  one_client : (interface : Interface) (text : List ℕ) (c d : Client) → IsClientText interface text c → IsClientText interface text d → c ≡ d
  one_client interface text c d p q =
      let same : p.tree ≡ q.tree = one_module text form.Client p.tree q.tree p.spells q.spells in
      one_some c d (client_of q.tree) (subst (λ (m : ModuleTree). client_of m ≡ Some c) same p.form_is) q.form_is

  -- a text that is a library has no fault as one
  faultless_library : (library text : List ℕ) (f : List Function) (fault : SourceFault) → IsLibraryText library text f → IsNoLibrary library text fault → ⊥
  faultless_library library text f fault p q = source q.why
    where
      source : IsTextFault text (form.Library library) fault ⊎ ((fault ≡ unbuilt) × IsUnbuiltLibrary library text) → ⊥
      source (inl h) = no_fault text (form.Library library) p.tree fault p.spells h
      source (inr h) = h.1.none f p

  -- a library is not wrong
  right_library : (library text : List ℕ) (f : List Function) (why : Refusal) → IsShortLibrary library text f → IsWrongLibrary library why text → ⊥
  right_library library text f refusal.TooLong p q = too_short _ _ p.short q
  right_library library text f (refusal.Source fault) p q = faultless_library library text f fault p.is q
  right_library library text f refusal.InterfaceTooLong p q =
      too_short _ _ (subst (λ (g : List Function). length (interface_text (interface_of library g)) ≤ interface_limit) (one_library library text f q.functions p.is q.is) p.interface_short) q.interface_long

  right_client : (interface : Interface) (text : List ℕ) (c : Client) (why : Refusal) → IsShortClient interface text c → IsWrongClient interface why text → ⊥
  right_client interface text c refusal.TooLong p q = too_short _ _ p.short q
  right_client interface text c (refusal.Source fault) p q = source q.why
    where
      source : IsTextFault text form.Client fault ⊎ ((fault ≡ unbuilt) × IsUnbuiltClient interface text) → ⊥
      source (inl h) = no_fault text form.Client p.is.tree fault p.is.spells h
      source (inr h) = h.1.none c p.is
  right_client interface text c refusal.InterfaceTooLong p q = q

  -- the fault of a text that is no library is one
  source_library : (library text : List ℕ) (x y : SourceFault) → IsNoLibrary library text x → IsNoLibrary library text y → x ≡ y
  source_library library text x y p q = at p.why q.why
    where
      at : IsTextFault text (form.Library library) x ⊎ ((x ≡ unbuilt) × IsUnbuiltLibrary library text) → IsTextFault text (form.Library library) y ⊎ ((y ≡ unbuilt) × IsUnbuiltLibrary library text) → x ≡ y
      at (inl h) (inl k) = one_fault text (form.Library library) x y h k
      at (inl h) (inr k) = absurd (no_fault text (form.Library library) k.1.tree x k.1.spells h)
      at (inr h) (inl k) = absurd (no_fault text (form.Library library) h.1.tree y h.1.spells k)
      at (inr h) (inr k) = h.0 ∙ sym k.0

  source_client : (interface : Interface) (text : List ℕ) (x y : SourceFault) → IsNoClient interface text x → IsNoClient interface text y → x ≡ y
  source_client interface text x y p q = at p.why q.why
    where
      at : IsTextFault text form.Client x ⊎ ((x ≡ unbuilt) × IsUnbuiltClient interface text) → IsTextFault text form.Client y ⊎ ((y ≡ unbuilt) × IsUnbuiltClient interface text) → x ≡ y
      at (inl h) (inl k) = one_fault text form.Client x y h k
      at (inl h) (inr k) = absurd (no_fault text form.Client k.1.tree x k.1.spells h)
      at (inr h) (inl k) = absurd (no_fault text form.Client h.1.tree y h.1.spells k)
      at (inr h) (inr k) = h.0 ∙ sym k.0

  -- a text that is no library is wrong in one way
  one_wrong_library : (library text : List ℕ) (x y : Refusal) → IsWrongLibrary library x text → IsWrongLibrary library y text → x ≡ y
  one_wrong_library library text refusal.TooLong refusal.TooLong p q = refl
  one_wrong_library library text refusal.TooLong (refusal.Source f) p q = absurd (too_short _ _ q.short p)
  one_wrong_library library text refusal.TooLong refusal.InterfaceTooLong p q = absurd (too_short _ _ q.short p)
  one_wrong_library library text (refusal.Source f) refusal.TooLong p q = absurd (too_short _ _ p.short q)
  one_wrong_library library text (refusal.Source f) (refusal.Source g) p q = ap (λ (x : SourceFault). refusal.Source x) (source_library library text f g p q)
  one_wrong_library library text (refusal.Source f) refusal.InterfaceTooLong p q = absurd (faultless_library library text q.functions f q.is p)
  one_wrong_library library text refusal.InterfaceTooLong refusal.TooLong p q = absurd (too_short _ _ p.short q)
  one_wrong_library library text refusal.InterfaceTooLong (refusal.Source g) p q = absurd (faultless_library library text p.functions g p.is q)
  one_wrong_library library text refusal.InterfaceTooLong refusal.InterfaceTooLong p q = refl

  one_wrong_client : (interface : Interface) (text : List ℕ) (x y : Refusal) → IsWrongClient interface x text → IsWrongClient interface y text → x ≡ y
  one_wrong_client interface text refusal.TooLong refusal.TooLong p q = refl
  one_wrong_client interface text refusal.TooLong (refusal.Source f) p q = absurd (too_short _ _ q.short p)
  one_wrong_client interface text (refusal.Source f) refusal.TooLong p q = absurd (too_short _ _ p.short q)
  one_wrong_client interface text (refusal.Source f) (refusal.Source g) p q = ap (λ (x : SourceFault). refusal.Source x) (source_client interface text f g p q)
  one_wrong_client interface text refusal.InterfaceTooLong y p q = absurd p
  one_wrong_client interface text x refusal.InterfaceTooLong p q = absurd q

  module _ (held : List ℕ → Option (List ℕ)) (told : (name : List ℕ) → IsSome (held name)) (job : Job) where
    holds_one : (name : List ℕ) (f g : List Function) → HoldsLibrary (held name) job.library f → HoldsLibrary (held name) job.library g → f ≡ g
    holds_one name f g p q =
        let t = together (held name) (λ text. IsShortLibrary job.library text f) (λ text. IsShortLibrary job.library text g) (told name) p q in
        one_library job.library t.0 f g t.1.is t.2.is

    not_wrong : (name : List ℕ) (f : List Function) (why : Refusal) → HoldsLibrary (held name) job.library f → Holds (held name) (IsWrongLibrary job.library why) → ⊥
    not_wrong name f why p q =
        let t = together (held name) (λ text. IsShortLibrary job.library text f) (IsWrongLibrary job.library why) (told name) p q in
        right_library job.library t.0 f why t.1 t.2

    one_why : (name : List ℕ) (x y : Refusal) → Holds (held name) (IsWrongLibrary job.library x) → Holds (held name) (IsWrongLibrary job.library y) → x ≡ y
    one_why name x y p q =
        let t = together (held name) (IsWrongLibrary job.library x) (IsWrongLibrary job.library y) (told name) p q in
        one_wrong_library job.library t.0 x y t.1 t.2

    client_not_wrong : (interface : Interface) (name : List ℕ) (c : Client) (why : Refusal) → HoldsClient (held name) interface c → Holds (held name) (IsWrongClient interface why) → ⊥
    client_not_wrong interface name c why p q =
        let t = together (held name) (λ text. IsShortClient interface text c) (IsWrongClient interface why) (told name) p q in
        right_client interface t.0 c why t.1 t.2

    one_why_client : (interface : Interface) (name : List ℕ) (x y : Refusal) → Holds (held name) (IsWrongClient interface x) → Holds (held name) (IsWrongClient interface y) → x ≡ y
    one_why_client interface name x y p q =
        let t = together (held name) (IsWrongClient interface x) (IsWrongClient interface y) (told name) p q in
        one_wrong_client interface t.0 x y t.1 t.2

    one_held_client : (interface : Interface) (name : List ℕ) (c d : Client) → HoldsClient (held name) interface c → HoldsClient (held name) interface d → c ≡ d
    one_held_client interface name c d p q =
        let t = together (held name) (λ text. IsShortClient interface text c) (λ text. IsShortClient interface text d) (told name) p q in
        one_client interface t.0 c d t.1.is t.2.is

    -- the new library passes or breaks a rule, not both
    not_both : (old new f g : List Function) → HoldsBoth held job old new → HoldsBoth held job f g
        → BreaksNoRule (interface_of job.library old) (interface_of job.library new) → (BreaksNoRule (interface_of job.library f) (interface_of job.library g) → ⊥) → ⊥
    not_both old new f g p q keeps breaks =
        breaks (subst (λ (x : List Function). BreaksNoRule (interface_of job.library x) (interface_of job.library g)) (holds_one job.old old f p.old_holds q.old_holds)
        (subst (λ (x : List Function). BreaksNoRule (interface_of job.library old) (interface_of job.library x)) (holds_one job.new new g p.new_holds q.new_holds) keeps))

    -- a refused file, and both libraries accepted with a broken rule
    refused_or_broken : (at : Input) (why : Refusal) (old new : List Function) → Refuses held job at why → Breaks held job old new → ⊥
    refused_or_broken _ why old new (old_is_wrong _ wrong) b = not_wrong job.old old why b.both.old_holds wrong
    refused_or_broken _ why old new (new_is_wrong _ f holds wrong) b = not_wrong job.new new why b.both.new_holds wrong
    refused_or_broken _ why old new (client_is_wrong _ f g passes wrong) b = not_both f g old new passes.both b.both passes.keeps b.broken

    refused_or_ran : (at : Input) (why : Refusal) (old new : List Function) (c : Client) → Refuses held job at why → Accepts held job old new c → ⊥
    refused_or_ran _ why old new c (old_is_wrong _ wrong) a = not_wrong job.old old why a.passes.both.old_holds wrong
    refused_or_ran _ why old new c (new_is_wrong _ f holds wrong) a = not_wrong job.new new why a.passes.both.new_holds wrong
    refused_or_ran _ why old new c (client_is_wrong _ f g passes wrong) a =
        client_not_wrong (interface_of job.library old) job.client c why a.client_holds
        (subst (λ (x : List Function). Holds (held job.client) (IsWrongClient (interface_of job.library x) why)) (holds_one job.old f old passes.both.old_holds a.passes.both.old_holds) wrong)

    -- the first file that is wrong, and what is wrong with it
    one_refused : (at by : Input) (x y : Refusal) → Refuses held job at x → Refuses held job by y → refused_answer x (name_of job at) ≡ refused_answer y (name_of job by)
    one_refused _ _ x y (old_is_wrong _ p) (old_is_wrong _ q) = ap (λ (why : Refusal). refused_answer why job.old) (one_why job.old x y p q)
    one_refused _ _ x y (old_is_wrong _ p) (new_is_wrong _ f holds q) = absurd (not_wrong job.old f x holds p)
    one_refused _ _ x y (old_is_wrong _ p) (client_is_wrong _ f g passes q) = absurd (not_wrong job.old f x passes.both.old_holds p)
    one_refused _ _ x y (new_is_wrong _ f holds p) (old_is_wrong _ q) = absurd (not_wrong job.old f y holds q)
    one_refused _ _ x y (new_is_wrong _ f holds p) (new_is_wrong _ g _ q) = ap (λ (why : Refusal). refused_answer why job.new) (one_why job.new x y p q)
    one_refused _ _ x y (new_is_wrong _ f holds p) (client_is_wrong _ g h passes q) = absurd (not_wrong job.new h x passes.both.new_holds p)
    one_refused _ _ x y (client_is_wrong _ f g passes p) (old_is_wrong _ q) = absurd (not_wrong job.old f y passes.both.old_holds q)
    one_refused _ _ x y (client_is_wrong _ f g passes p) (new_is_wrong _ h holds q) = absurd (not_wrong job.new g y passes.both.new_holds q)
    one_refused _ _ x y (client_is_wrong _ f g passes p) (client_is_wrong _ h i others q) =
        let same : f ≡ h = holds_one job.old f h passes.both.old_holds others.both.old_holds in
        let p' = subst (λ (z : List Function). Holds (held job.client) (IsWrongClient (interface_of job.library z) x)) same p in
        ap (λ (why : Refusal). refused_answer why job.client) (one_why_client (interface_of job.library h) job.client x y p' q)

    one_report : (old new f g : List Function) → Breaks held job old new → Breaks held job f g
        → report_answer (report_of (interface_of job.library old) (interface_of job.library new)) ≡ report_answer (report_of (interface_of job.library f) (interface_of job.library g))
    one_report old new f g p q =
        ap (λ (x : List Function). report_answer (report_of (interface_of job.library x) (interface_of job.library new))) (holds_one job.old old f p.both.old_holds q.both.old_holds)
        ∙ ap (λ (x : List Function). report_answer (report_of (interface_of job.library f) (interface_of job.library x))) (holds_one job.new new g p.both.new_holds q.both.new_holds)

    -- the run of these functions and this client
    abbrev run_by : List Function → List Function → Client → Ran
    run_by old new c = run_of (record { old = (interface_of job.library old).functions; new = new }) c.prints job.ticks

    one_run : (old new f g : List Function) (c d : Client) → Accepts held job old new c → Accepts held job f g d → run_by old new c ≡ run_by f g d
    one_run old new f g c d p q =
        let olds : old ≡ f = holds_one job.old old f p.passes.both.old_holds q.passes.both.old_holds in
        let news : new ≡ g = holds_one job.new new g p.passes.both.new_holds q.passes.both.new_holds in
        let clients : c ≡ d = one_held_client (interface_of job.library f) job.client c d (subst (λ (x : List Function). HoldsClient (held job.client) (interface_of job.library x) c) olds p.client_holds) q.client_holds in
        ap (λ (x : List Function). run_by x new c) olds ∙ ap (λ (x : List Function). run_by f x c) news ∙ ap (run_by f g) clients

  module _ (one_job : OneJob) (words : List (List ℕ)) (held : List ℕ → Option (List ℕ)) (told : (name : List ℕ) → IsSome (held name)) where
    apart : (job k : Job) → IsEvolve words job → IsEvolve words k → k ≡ job
    apart job k p q = one_job words k job q p

    at_one_job : (a b : Answer) → Answers words held a → Answers words held b → a ≡ b
    at_one_job _ _ (no_command none) (no_command other) = refl
    at_one_job _ _ (no_command none) (refused job at why asks is) = absurd (none job asks)
    at_one_job _ _ (no_command none) (broken job old new asks is) = absurd (none job asks)
    at_one_job _ _ (no_command none) (ran job old new client b asks is ends) = absurd (none job asks)
    at_one_job _ _ (refused job at why asks is) (no_command none) = absurd (none job asks)
    at_one_job _ _ (refused job at why asks is) (refused k by y asked found) =
        let same = apart job k asks asked in
        one_refused held told job at by why y is (subst (λ (j : Job). Refuses held j by y) same found) ∙ ap (λ (j : Job). refused_answer y (name_of j by)) (sym same)
    at_one_job _ _ (refused job at why asks is) (broken k old new asked found) =
        absurd (refused_or_broken held told job at why old new is (subst (λ (j : Job). Breaks held j old new) (apart job k asks asked) found))
    at_one_job _ _ (refused job at why asks is) (ran k old new client b asked found ends) =
        absurd (refused_or_ran held told job at why old new client is (subst (λ (j : Job). Accepts held j old new client) (apart job k asks asked) found))
    at_one_job _ _ (broken job old new asks is) (no_command none) = absurd (none job asks)
    at_one_job _ _ (broken job old new asks is) (refused k by y asked found) =
        absurd (refused_or_broken held told job by y old new (subst (λ (j : Job). Refuses held j by y) (apart job k asks asked) found) is)
    at_one_job _ _ (broken job old new asks is) (broken k f g asked found) =
        let same = apart job k asks asked in
        one_report held told job old new f g is (subst (λ (j : Job). Breaks held j f g) same found)
        ∙ ap (λ (j : Job). report_answer (report_of (interface_of j.library f) (interface_of j.library g))) (sym same)
    at_one_job _ _ (broken job old new asks is) (ran k f g client b asked found ends) =
        let accepts = subst (λ (j : Job). Accepts held j f g client) (apart job k asks asked) found in
        absurd (not_both held told job f g old new accepts.passes.both is.both accepts.passes.keeps is.broken)
    at_one_job _ _ (ran job old new client a asks is ends) (no_command none) = absurd (none job asks)
    at_one_job _ _ (ran job old new client a asks is ends) (refused k by y asked found) =
        absurd (refused_or_ran held told job by y old new client (subst (λ (j : Job). Refuses held j by y) (apart job k asks asked) found) is)
    at_one_job _ _ (ran job old new client a asks is ends) (broken k f g asked found) =
        let breaks = subst (λ (j : Job). Breaks held j f g) (apart job k asks asked) found in
        absurd (not_both held told job old new f g is.passes.both breaks.both is.passes.keeps breaks.broken)
    at_one_job _ _ (ran job old new client a asks is ends) (ran k f g d b asked found other) =
        let same = apart job k asks asked in
        let accepts = subst (λ (j : Job). Accepts held j f g d) same found in
        let runs = one_run held told job old new f g client d is accepts in
        let ended = subst (λ (j : Job). AnswersRun (run_of (record { old = (interface_of j.library f).functions; new = g }) d.prints j.ticks) b) same other in
        one_ending (run_by held told job f g d).out (run_by held told job f g d).ending a b (subst (λ (r : Ran). AnswersRun r a) runs ends) ended

  pub one_answer : OneJob → OneAnswer
  one_answer one_job words held a b told p q = at_one_job one_job words held told a b p q
