-- The symbols of some keys.
use Rattle.std.proofs.Common.{◌≡◌, ℕ, List, [], ◌∷◌, Option, Some, None, true, false, codes, refl}
use Rattle.evo_base.specs.declared.key.Key.{Key}
use Rattle.evo_base.specs.declared.key.Mark.{Mark}
use Rattle.evo_base.specs.declared.key.Mark.TheVariants as mark
use Rattle.evo_code.specs.Symbols.{Text, symbol_text, is_plain_key}

abbrev key : Text → List Text → Text → Option (List Text) → List Mark → Key
key m context base labels marks = record { «module» = m; context = context; base = base; labels = labels; part = record { marks = marks } }

abbrev lib : Text
lib = codes "Lib"

abbrev main : Text
main = codes "main"

function : symbol_text (key lib (lib ∷ []) (codes "f") (Some []) []) ≡ codes "Lib.f()"
function = refl

initialiser : symbol_text (key lib (lib ∷ codes "S" ∷ []) (codes "init") (Some (codes "k" ∷ [])) []) ≡ codes "Lib.S.init(k:)"
initialiser = refl

unlabelled : symbol_text (key lib (lib ∷ []) (codes "h") (Some (codes "_" ∷ codes "n" ∷ [])) []) ≡ codes "Lib.h(_:n:)"
unlabelled = refl

-- a member that a client adds to a type of the library
extended : symbol_text (key main (lib ∷ codes "S" ∷ []) (codes "twice") (Some []) []) ≡ codes "main:Lib.S.twice()"
extended = refl

conformance : symbol_text (key lib (lib ∷ []) (codes "R") None (mark.Conformance (record { «module» = lib; name = codes "P" }) ∷ [])) ≡ codes "Lib.R:Lib.P"
conformance = refl

subtable : symbol_text (key lib (lib ∷ []) (codes "P") None (mark.Inherited (record { «module» = lib; name = codes "Q" }) ∷ [])) ≡ codes "Lib.P:Lib.Q#conformance"
subtable = refl

constraint : symbol_text (key lib (lib ∷ codes "P" ∷ []) (codes "A") None (mark.Associated (record { «module» = lib; name = codes "Q" }) ∷ [])) ≡ codes "Lib.P.A:Lib.Q#associated"
constraint = refl

copy : symbol_text (key lib (lib ∷ codes "S" ∷ []) (codes "x") None (mark.Get ∷ mark.Copy ∷ [])) ≡ codes "Lib.S.x#get#copy"
copy = refl

override : symbol_text (key lib (lib ∷ codes "B" ∷ []) (codes "f") (Some []) (mark.Override ∷ [])) ≡ codes "Lib.B.f()#override"
override = refl

thunk : symbol_text (key main (lib ∷ []) (codes "R") None (mark.Conformance (record { «module» = lib; name = codes "P" }) ∷ mark.Thunk (codes "Lib.P.m()#requirement") ∷ [])) ≡ codes "main:Lib.R:Lib.P/Lib.P.m()#requirement#thunk"
thunk = refl

start : symbol_text (key main [] main None (mark.Start ∷ [])) ≡ codes "main#start"
start = refl

-- plain keys, and a thunk that is not the last mark
plain : is_plain_key (key lib (lib ∷ codes "S" ∷ []) (codes "init") (Some (codes "k" ∷ [])) (mark.New ∷ [])) ≡ true
plain = refl

empty : is_plain_key (key lib (lib ∷ []) [] None []) ≡ false
empty = refl

signed : is_plain_key (key lib (lib ∷ []) (codes "a.b") None []) ≡ false
signed = refl

thunk_first : is_plain_key (key lib (lib ∷ []) (codes "R") None (mark.Thunk (codes "x") ∷ mark.Get ∷ [])) ≡ false
thunk_first = refl
