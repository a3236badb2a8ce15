use Rattle.std.proofs.Common.{◌≡◌, ℕ, List, sym, ◌∙◌}
use Rattle.std.specs.Fmt.{decimal}
use Rattle.std.proofs.lemmas.Fmt.{decimal_injective}
use Rattle.evo_words.specs.declared.words.Job.{Job}
use Rattle.evo_words.specs.Words.{IsEvolve}
use Rattle.evo_words.proofs.laws.one_job.Goals as goal

abbrev job : List ℕ → List ℕ → List ℕ → List ℕ → ℕ → Job
job library old new client ticks = record { library = library; old = old; new = new; client = client; ticks = ticks }

-- jobs with the same parts are the same
same_job : (library library' old old' new new' client client' : List ℕ) (ticks ticks' : ℕ) → library ≡ library' → old ≡ old' → new ≡ new' → client ≡ client' → ticks ≡ ticks'
    → job library old new client ticks ≡ job library' old' new' client' ticks'
same_job library library' old old' new new' client client' ticks ticks' l o n c t = cc

one_job : (words : List (List ℕ)) (a b : Job) → IsEvolve words a → IsEvolve words b → a ≡ b
one_job words a b of_a of_b =
    let same = sym of_a.words_are ∙ of_b.words_are in
    let library : a.library ≡ b.library = cc in
    let old : a.old ≡ b.old = cc in
    let new : a.new ≡ b.new = cc in
    let client : a.client ≡ b.client = cc in
    let written : decimal a.ticks ≡ decimal b.ticks = cc in
    let ticks = decimal_injective a.ticks b.ticks of_a.ticks of_b.ticks written in
    same_job a.library b.library a.old b.old a.new b.new a.client b.client a.ticks b.ticks library old new client ticks

pub returns : goal.returns
returns c = one_job
