-- The objects of a library and of a client.
use Rattle.std.specs.Prelude.{ℕ, ◌+◌, max, List, [], ◌∷◌, ◌++◌, map, filter, length, replicate, codes, not, pos, Bool, false, Option, Some, None, if◌then◌else◌}
use Rattle.evo_base.specs.declared.place.Release.{Release}
use Rattle.evo_first_form.specs.declared.Function.{Function as Declared}
use Rattle.evo_first_form.specs.declared.Declaration.{Declaration}
use Rattle.evo_first_form.specs.declared.Print.{Print}
use Rattle.evo_first_form.specs.declared.Term.{Term}
use Rattle.evo_first_form.specs.declared.Term.TheVariants.{Integer, Call}
use Rattle.evo_first_form.specs.Interface.{is_visible}
use Rattle.evo_first_form.specs.Calls.{calls_of}
use Rattle.evo_first_form.specs.Copies.{copied_body, is_copied, calls_of_copies}
use Rattle.evo_code.specs.declared.instr.Instr.{Instr}
use Rattle.evo_code.specs.declared.instr.Instr.TheVariants as Op
use Rattle.evo_code.specs.declared.layout.Layout.{Layout}
use Rattle.evo_code.specs.declared.layout.Layout.TheVariants as layout
use Rattle.evo_code.specs.declared.layout.Operand.{Operand}
use Rattle.evo_code.specs.declared.object.Function.{Function}
use Rattle.evo_code.specs.declared.object.Level.TheVariants as level
use Rattle.evo_code.specs.declared.object.Import.{Import}
use Rattle.evo_code.specs.declared.object.ImportKind.TheVariants as kind
use Rattle.evo_code.specs.declared.object.Object.{Object}
use Rattle.evo_execution.specs.Tables.{start_symbol}

-- ---- symbols

-- the symbol of a function: MODULE.NAME()
abbrev pub symbol_of : List ℕ → List ℕ → List ℕ
symbol_of library name = library ++ 46 ∷ (name ++ 40 ∷ 41 ∷ [])

-- the symbol of a client's copy of it: MODULE.NAME()#copy
abbrev pub copy_symbol : List ℕ → List ℕ → List ℕ
copy_symbol library name = symbol_of library name ++ codes "#copy"

-- what code of the client calls: its copy of a function, where clients copy that
abbrev pub client_symbol : List ℕ → List Declaration → List ℕ → List ℕ
client_symbol library old name = if is_copied old name then copy_symbol library name else symbol_of library name

-- ---- code

-- each value has a slot of one word
abbrev pub one_word : Layout
one_word = layout.Words 1

abbrev pub slot : ℕ → Operand
slot n = record { slot = n; offset = layout.Words 0 }

-- a term's value goes to a slot; what is called has the symbol that is given for its name
abbrev pub term_code : (List ℕ → List ℕ) → ℕ → Term → Instr
term_code symbols n (Integer value) = Op.Int (slot n) (pos value)
term_code symbols n (Call name) = Op.Call (symbols name) [] (slot n) one_word

-- a function that takes its tick and gives the value of a term
abbrev pub function_of : List ℕ → Bool → (List ℕ → List ℕ) → Term → Function
function_of symbol exported symbols term = record {
  symbol = symbol;
  level = level.Timed;
  exported = exported;
  slots = one_word ∷ [];
  params = 0;
  result = one_word;
  code = Op.Tick ∷ term_code symbols 0 term ∷ Op.Return (slot 0) one_word ∷ [];
}

-- a library's function; those that clients see are exported
abbrev pub library_function : List ℕ → Declared → Function
library_function library f = function_of (symbol_of library f.name) (is_visible f.access) (symbol_of library) f.body

abbrev pub library_functions : List ℕ → List Declared → List Function
library_functions library functions = map (library_function library) functions

-- the client's copies of functions, each with the body that the old interface has
abbrev pub with_copy : List ℕ → List Declaration → List ℕ → Option Term → List Function → List Function
with_copy library old name None rest = rest
with_copy library old name (Some term) rest = function_of (copy_symbol library name) false (client_symbol library old) term ∷ rest

abbrev pub copy_functions : List ℕ → List Declaration → List (List ℕ) → List Function
copy_functions library old [] = []
copy_functions library old (name ∷ names) = with_copy library old name (copied_body old name) (copy_functions library old names)

-- the values of terms go to the slots from this one on
abbrev pub terms_code : (List ℕ → List ℕ) → ℕ → List Term → List Instr
terms_code symbols n [] = []
terms_code symbols n (t ∷ ts) = term_code symbols n t ∷ terms_code symbols (n + 1) ts

abbrev pub slots_of : ℕ → List Term → List Operand
slots_of n [] = []
slots_of n (t ∷ ts) = slot n ∷ slots_of (n + 1) ts

abbrev pub print_code : (List ℕ → List ℕ) → List Term → List Instr
print_code symbols terms = terms_code symbols 0 terms ++ Op.Print (slots_of 0 terms) ∷ []

abbrev pub prints_code : (List ℕ → List ℕ) → List Print → List Instr
prints_code symbols [] = []
prints_code symbols (p ∷ ps) = print_code symbols p.terms ++ prints_code symbols ps

-- the most terms of a print
abbrev pub most_terms : List Print → ℕ
most_terms [] = 0
most_terms (p ∷ ps) = max (length p.terms) (most_terms ps)

-- the top level of a client, which gives nothing
abbrev pub start_function : (List ℕ → List ℕ) → List Print → Function
start_function symbols prints = record {
  symbol = start_symbol;
  level = level.Timed;
  exported = false;
  slots = replicate (most_terms prints) one_word;
  params = 0;
  result = layout.Words 0;
  code = Op.Tick ∷ (prints_code symbols prints ++ Op.Return (slot 0) (layout.Words 0) ∷ []);
}

-- ---- objects

-- every module of the first form has this release
abbrev pub first_release : Release
first_release = record { major = 1; minor = 0 }

-- an object of functions alone
abbrev pub object_of : List ℕ → List Import → List Function → Object
object_of name imports functions = record {
  «module» = name;
  release = first_release;
  symbols = [];
  imports = imports;
  sizes = [];
  functions = functions;
  classes = [];
  protocols = [];
  conformances = [];
}

-- the object of a library: its functions, and nothing that it needs
abbrev pub library_object : List ℕ → List Declared → Object
library_object library functions = object_of library [] (library_functions library functions)

abbrev pub function_import : List ℕ → Import
function_import symbol = record { symbol = symbol; kind = kind.Function }

-- what calls need of the library: the functions that clients do not copy
abbrev pub needed : List ℕ → List Declaration → List (List ℕ) → List Import
needed library old calls = map (λ name. function_import (symbol_of library name)) (filter (λ name. not (is_copied old name)) calls)

-- what a client with these copies needs, one for each call of its code, and then for each of its copies'
abbrev pub imports_of : List ℕ → List Declaration → List Print → List (List ℕ) → List Import
imports_of library old prints copies = needed library old (calls_of prints ++ calls_of_copies old copies)

-- the object of a client: its copies, and its top level
abbrev pub client_object : List ℕ → List Declaration → List Print → List (List ℕ) → Object
client_object library old prints copies =
    object_of (codes "main") (imports_of library old prints copies) (copy_functions library old copies ++ start_function (client_symbol library old) prints ∷ [])
