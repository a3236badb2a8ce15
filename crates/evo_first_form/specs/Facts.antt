-- What holds of each library and client that is a module of the first form.
use Rattle.std.specs.Prelude.{◌^◌, ◌<◌, List, All}
use Rattle.evo_first_form.specs.declared.Function.{Function}
use Rattle.evo_first_form.specs.declared.Term.{Term}
use Rattle.evo_first_form.specs.declared.Term.TheVariants as term
use Rattle.evo_first_form.specs.declared.Print.{Print}
use Rattle.evo_first_form.specs.declared.Client.{Client}
use Rattle.evo_first_form.specs.Words.{IsName}

abbrev pub TermFacts : Term → Type 0
TermFacts (term.Integer value) = value < 2 ^ 63
TermFacts (term.Call name) = IsName name

pub record FunctionFacts (function : Function) : Type 0 where
  pub name : IsName function.name
  pub body : TermFacts function.body

abbrev pub LibraryFacts : List Function → Type 0
LibraryFacts functions = All FunctionFacts functions

abbrev pub PrintFacts : Print → Type 0
PrintFacts print = All TermFacts print.terms

pub record ClientFacts (client : Client) : Type 0 where
  pub name : IsName client.«import»
  pub prints : All PrintFacts client.prints
