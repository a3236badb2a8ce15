-- What single instructions of the code of the first form do.
use Rattle.std.proofs.Common.{◌≡◌, ℕ, zero, suc, ◌+◌, ◌-◌, ◌≤◌, Bool, true, List, [], ◌∷◌, ◌++◌, length, map, take, drop, Option, Some, None, refl, sym, ◌∙◌, ap, arith, append_assoc, pos}
use Rattle.std.specs.Prelude.{slice_get, nat_le, nat_eq, replicate, min, sum, ℤ}
use Rattle.std.specs.Option.{option_and_then, option_map_or}
use Rattle.std.specs.Fmt.{decimal}
use Rattle.std.specs.List.{join_with_byte}
use Rattle.std.proofs.lemmas.Bool.{le-leb}
use Rattle.std.proofs.lemmas.List.Sums.{sum_by-cons}
use Rattle.std.proofs.lemmas.List.{length-append, length-map, map-append, take_at, drop_at}
use Rattle.evo_first_form.specs.declared.Term.{Term}
use Rattle.evo_code.specs.declared.instr.Instr.{Instr}
use Rattle.evo_code.specs.declared.instr.Instr.TheVariants as Op
use Rattle.evo_code.specs.declared.layout.Layout.{Layout}
use Rattle.evo_code.specs.declared.layout.Layout.TheVariants as layout
use Rattle.evo_code.specs.declared.object.Function.{Function}
use Rattle.evo_code.specs.declared.image.Image.{Image}
use Rattle.evo_code.specs.Layouts.{most_words}
use Rattle.evo_execution.specs.declared.end.End.TheVariants.{Done}
use Rattle.evo_execution.specs.declared.end.MachineFault.TheVariants as fault
use Rattle.evo_execution.specs.Words.{Word, Empty, Integer, Answer, Got, and_then, provided, some_or, shown, line_of as machine_line}
use Rattle.evo_execution.specs.Tables.{function_number}
use Rattle.evo_execution.specs.Execution.{State, Frame, Step, Goes, Writes, Ends, next, with_words, words_at, word_at, written, written_at, onwards, give, finished, count, room, slots_of as state_slots, address, read_word, enter, enter_function, result_of, texts, act, act_at, step}
use Rattle.evo_execution.proofs.Samples.{value-words}
use Rattle.evo_first_code.specs.Meaning.{line_of}
use Rattle.evo_first_code.specs.Objects.{one_word, slot, function_of, slots_of}

pub le_true : (a b : ℕ) → a ≤ b → nat_le a b ≡ true
le_true a b h = le-leb a b h

-- a frame's words: integers, and then others
abbrev pub word_of : ℕ → Word
word_of n = Integer (pos n)

abbrev pub filled : List ℕ → List Word → List Word
filled ns rest = map word_of ns ++ rest

-- one more integer
pub filled-put : (ns : List ℕ) (n : ℕ) (w : Word) (rest : List Word) (k : ℕ) → k ≡ length ns → written (filled ns (w ∷ rest)) k (word_of n ∷ []) ≡ filled (ns ++ n ∷ []) rest
filled-put ns n w rest k e =
    let long : length (map word_of ns) ≡ k = length-map ns word_of ∙ sym e in
    let front : take k (map word_of ns ++ w ∷ rest) ≡ map word_of ns = take_at (map word_of ns) (w ∷ rest) k long in
    let shape : map word_of ns ++ w ∷ rest ≡ (map word_of ns ++ w ∷ []) ++ rest = sym (append_assoc (map word_of ns) (w ∷ []) rest) in
    let longer : length (map word_of ns ++ w ∷ []) ≡ k + 1 = length-append (map word_of ns) (w ∷ []) ∙ ap (λ (m : ℕ). m + 1) long in
    let back : drop (k + 1) (map word_of ns ++ w ∷ rest) ≡ rest = ap (λ (l : List Word). drop (k + 1) l) shape ∙ drop_at (map word_of ns ++ w ∷ []) rest (k + 1) longer in
    ap (λ (l : List Word). l ++ (word_of n ∷ drop (k + 1) (map word_of ns ++ w ∷ rest))) front
    ∙ ap (λ (l : List Word). map word_of ns ++ (word_of n ∷ l)) back
    ∙ sym (append_assoc (map word_of ns) (word_of n ∷ []) rest)
    ∙ ap (λ (l : List Word). l ++ rest) (sym (map-append word_of ns (n ∷ [])))

pub filled-length : (ns : List ℕ) (rest : List Word) → length (filled ns rest) ≡ length ns + length rest
filled-length ns rest = length-append (map word_of ns) rest ∙ ap (λ (m : ℕ). m + length rest) (length-map ns word_of)

get-behind : (xs : List Word) (y : Word) (zs : List Word) → slice_get (xs ++ y ∷ zs) (length xs) ≡ Some y
get-behind [] y zs = refl
get-behind (x ∷ xs) y zs = get-behind xs y zs

-- the integer behind some others
filled-at : (before : List ℕ) (n : ℕ) (ns : List ℕ) (rest : List Word) (k : ℕ) → k ≡ length before → slice_get (filled (before ++ n ∷ ns) rest) k ≡ Some (word_of n)
filled-at before n ns rest k e =
    let shape : filled (before ++ n ∷ ns) rest ≡ map word_of before ++ word_of n ∷ (map word_of ns ++ rest) =
    ap (λ (l : List Word). l ++ rest) (map-append word_of before (n ∷ ns)) ∙ append_assoc (map word_of before) (word_of n ∷ map word_of ns) rest in
    let long : length (map word_of before) ≡ k = length-map before word_of ∙ sym e in
    ap (λ (l : List Word). slice_get l k) shape ∙ ap (slice_get (map word_of before ++ word_of n ∷ (map word_of ns ++ rest))) (sym long) ∙ get-behind (map word_of before) (word_of n) (map word_of ns ++ rest)

-- lines are the same
pub lines : (ns : List ℕ) → machine_line (map decimal ns) ≡ line_of ns
lines [] = refl
lines (n ∷ []) = refl
lines (n ∷ m ∷ ns) = ap (λ (l : List ℕ). decimal n ++ 32 ∷ l) (lines (m ∷ ns)) ∙ sym (append_assoc (decimal n) (32 ∷ join_with_byte 32 (map decimal (m ∷ ns))) (10 ∷ []))

-- the words of slots of one word each
sum_first : (image : Image) (k n : ℕ) → k ≤ n → sum (map (count image) (take k (replicate n one_word))) ≡ k
sum_first image zero n le = refl
sum_first image (suc k) zero le = absurd (omega arith)
sum_first image (suc k) (suc n) le =
    let e : 1 + k ≡ suc k = omega arith in
    sum_by-cons (λ (x : ℕ). x) (count image one_word) (map (count image) (take k (replicate n one_word)))
    ∙ ap (λ (c : ℕ). c + sum (map (count image) (take k (replicate n one_word)))) (value-words image.sizes 1)
    ∙ ap (λ (m : ℕ). 1 + m) (sum_first image k n (omega arith)) ∙ e

sum_all : (image : Image) (n : ℕ) → sum (map (count image) (replicate n one_word)) ≡ n
sum_all image zero = refl
sum_all image (suc n) =
    let e : 1 + n ≡ suc n = omega arith in
    sum_by-cons (λ (x : ℕ). x) (count image one_word) (map (count image) (replicate n one_word))
    ∙ ap (λ (c : ℕ). c + sum (map (count image) (replicate n one_word))) (value-words image.sizes 1)
    ∙ ap (λ (m : ℕ). 1 + m) (sum_all image n) ∙ e

small_room : (n : ℕ) → n ≤ most_words → min most_words n ≡ n
small_room n le = omega arith

pub room_slots : (image : Image) (n : ℕ) → n ≤ most_words → room image (replicate n one_word) ≡ n
room_slots image n le = ap (λ (m : ℕ). min most_words m) (sum_all image n) ∙ small_room n le

small_address : (k : ℕ) → k ≤ most_words → min most_words (k + 0) ≡ k
small_address k le = omega arith

-- the function that runs, whose slots are the frame's words
pub record Runs (image : Image) (s : State) (f : Function) : Type 0 where
  pub found : slice_get image.functions s.top.function ≡ Some f
  pub slots : f.slots ≡ replicate (length s.top.words) one_word
  pub small : length s.top.words ≤ most_words

module _ (image : Image) (s : State) (f : Function) (r : Runs image s f) where
  pub address_is : (k : ℕ) → k ≤ length s.top.words → address image s (slot k) ≡ k
  address_is k le =
      let slots : state_slots image s ≡ replicate (length s.top.words) one_word = ap (λ (o : Option Function). option_map_or (λ (g : Function). g.slots) o []) r.found ∙ r.slots in
      ap (λ (ls : List Layout). min most_words (sum (map (count image) (take k ls)) + count image (layout.Words 0))) slots
      ∙ ap (λ (m : ℕ). min most_words (m + count image (layout.Words 0))) (sum_first image k (length s.top.words) le)
      ∙ ap (λ (m : ℕ). min most_words (k + m)) (value-words image.sizes 0)
      ∙ small_address k (omega (arith, r.small))

  -- the step is what the instruction does
  pub step_of : (i : Instr) (st : Step) → slice_get f.code s.top.at ≡ Some i → act image s i ≡ Got st → step image s ≡ st
  step_of i st here acts =
      ap (λ (o : Option Function). finished s (act_at image s (option_and_then (λ (g : Function). slice_get g.code s.top.at) o))) r.found
      ∙ ap (λ (o : Option Instr). finished s (act_at image s o)) here
      ∙ ap (finished s) acts

  pub int_acts : (k : ℕ) (n : ℤ) → k + 1 ≤ length s.top.words → act image s (Op.Int (slot k) n) ≡ Got (Goes (next (with_words s (written s.top.words k (Integer n ∷ [])))))
  int_acts k n fits =
      ap (λ (a : ℕ). onwards (and_then (written_at s.top.words a (Integer n ∷ [])) (λ (words : List Word). Got (with_words s words)))) (address_is k (omega arith))
      ∙ ap (λ (b : Bool). onwards (and_then (provided b fault.Range (written s.top.words k (Integer n ∷ []))) (λ (words : List Word). Got (with_words s words)))) (le_true (k + 1) (length s.top.words) fits)

  -- the state in which a function of one slot begins
  abbrev pub begun : ℕ → ℕ → State
  begun number k = record s { top = record { function = number; at = 0; words = Empty ∷ []; to = k }; below = (next s).top ∷ s.below }

  abbrev begins_with : ℕ → ℕ → ℕ → List Word → State
  begins_with number a c ws = record s { top = record { function = number; at = 0; words = ws ++ replicate (min most_words (sum (c ∷ [])) - length ws) Empty; to = a }; below = (next s).top ∷ s.below }

  abbrev entering : ℕ → ℕ → ℕ → Answer Step
  entering number a c =
      and_then (provided (nat_eq c c) fault.Size []) (λ (ws : List Word).
      and_then (provided (nat_le (a + c) (length s.top.words)) fault.Range ws) (λ (ws : List Word). Got (Goes (begins_with number a c ws))))

  pub call_acts : (k number : ℕ) (symbol own : List ℕ) (exported : Bool) (symbols : List ℕ → List ℕ) (term : Term)
      → function_number image symbol ≡ Some number → slice_get image.functions number ≡ Some (function_of own exported symbols term) → k + 1 ≤ length s.top.words
      → act image s (Op.Call symbol [] (slot k) one_word) ≡ Got (Goes (begun number k))
  call_acts k number symbol own exported symbols term named found fits =
      ap (λ (o : Option ℕ). and_then (some_or fault.Entry o) (λ (j : ℕ). enter image s j None [] (slot k) one_word)) named
      ∙ ap (λ (o : Option Function). and_then (some_or fault.Entry o) (λ (g : Function). enter_function image s number g None [] (slot k) one_word)) found
      ∙ ap (λ (c : ℕ). entering number (address image s (slot k)) c) (value-words image.sizes 1)
      ∙ ap (λ (a : ℕ). entering number a 1) (address_is k (omega arith))
      ∙ ap (λ (b : Bool). and_then (provided b fault.Range []) (λ (ws : List Word). Got (Goes (begins_with number k 1 ws)))) (le_true (k + 1) (length s.top.words) fits)

  abbrev leaving : ℕ → ℕ → ℕ → List Word → List Frame → Answer Step
  leaving a c n words below = and_then (words_at words a c) (λ (ws : List Word). and_then (provided (nat_eq c n) fault.Size ws) (λ (ws : List Word). give s ws below))

  result_is : (l : Layout) (n : ℕ) → f.result ≡ l → count image l ≡ n → result_of image s ≡ n
  result_is l n e counts = ap (λ (o : Option Function). option_map_or (λ (g : Function). count image g.result) o 0) r.found ∙ ap (count image) e ∙ counts

  pub return_acts : (w : Word) (caller : Frame) (rest : List Frame) → s.top.words ≡ w ∷ [] → s.below ≡ caller ∷ rest → f.result ≡ one_word → s.top.to + 1 ≤ length caller.words
      → act image s (Op.Return (slot 0) one_word) ≡ Got (Goes (record s { top = record caller { words = written caller.words s.top.to (w ∷ []) }; below = rest }))
  return_acts w caller rest words below gives fits =
      ap (λ (a : ℕ). leaving a (count image one_word) (result_of image s) s.top.words s.below) (address_is 0 (omega arith))
      ∙ ap (λ (c : ℕ). leaving 0 c (result_of image s) s.top.words s.below) (value-words image.sizes 1)
      ∙ ap (λ (n : ℕ). leaving 0 1 n s.top.words s.below) (result_is one_word 1 gives (value-words image.sizes 1))
      ∙ ap (λ (ws : List Word). leaving 0 1 1 ws s.below) words
      ∙ ap (λ (fs : List Frame). give s (w ∷ []) fs) below
      ∙ ap (λ (b : Bool). and_then (provided b fault.Range (written caller.words s.top.to (w ∷ []))) (λ (ws : List Word). Got (Goes (record s { top = record caller { words = ws }; below = rest })))) (le_true (s.top.to + 1) (length caller.words) fits)

  -- the first function leaves with nothing
  pub last_acts : s.below ≡ [] → f.result ≡ layout.Words 0 → act image s (Op.Return (slot 0) (layout.Words 0)) ≡ Got (Ends Done)
  last_acts below gives =
      ap (λ (a : ℕ). leaving a (count image (layout.Words 0)) (result_of image s) s.top.words s.below) (address_is 0 (omega arith))
      ∙ ap (λ (c : ℕ). leaving 0 c (result_of image s) s.top.words s.below) (value-words image.sizes 0)
      ∙ ap (λ (n : ℕ). leaving 0 0 n s.top.words s.below) (result_is (layout.Words 0) 0 gives (value-words image.sizes 0))
      ∙ ap (λ (b : Bool). and_then (provided b fault.Range (take 0 (drop 0 s.top.words))) (λ (ws : List Word). and_then (provided (nat_eq 0 0) fault.Size ws) (λ (ws : List Word). give s ws s.below))) (le_true (0 + 0) (length s.top.words) (omega arith))
      ∙ ap (λ (fs : List Frame). give s [] fs) below

  -- the texts of some slots from one on are those of these integers
  texts_are : (before ns : List ℕ) (rest : List Word) (terms : List Term) (k : ℕ) → s.top.words ≡ filled (before ++ ns) rest → k ≡ length before → length terms ≡ length ns
      → texts image s (slots_of k terms) ≡ Got (map decimal ns)
  texts_are before [] rest [] k e here same = refl
  texts_are before [] rest (t ∷ ts) k e here same = absurd (omega arith)
  texts_are before (n ∷ ns) rest [] k e here same = absurd (omega arith)
  texts_are before (n ∷ ns) rest (t ∷ ts) k e here same =
      let long : length s.top.words ≡ length (before ++ n ∷ ns) + length rest = ap length e ∙ filled-length (before ++ n ∷ ns) rest in
      let longer : length (before ++ n ∷ ns) ≡ length before + suc (length ns) = length-append before (n ∷ ns) in
      let one : read_word image s (slot k) ≡ Got (word_of n) =
      ap (word_at s.top.words) (address_is k (omega arith)) ∙ ap (λ (ws : List Word). word_at ws k) e ∙ ap (some_or fault.Range) (filled-at before n ns rest k here) in
      let more : texts image s (slots_of (k + 1) ts) ≡ Got (map decimal ns) =
      texts_are (before ++ n ∷ []) ns rest ts (k + 1) (e ∙ ap (λ (l : List ℕ). filled l rest) (sym (append_assoc before (n ∷ []) ns))) (ap (λ (m : ℕ). m + 1) here ∙ sym (length-append before (n ∷ []))) (omega arith) in
      ap (λ (a : Answer Word). and_then (and_then a shown) (λ (t : List ℕ). and_then (texts image s (slots_of (k + 1) ts)) (λ (us : List (List ℕ)). Got (t ∷ us)))) one
      ∙ ap (λ (a : Answer (List (List ℕ))). and_then a (λ (us : List (List ℕ)). Got (decimal n ∷ us))) more

  pub print_acts : (ns : List ℕ) (rest : List Word) (terms : List Term) → s.top.words ≡ filled ns rest → length terms ≡ length ns → act image s (Op.Print (slots_of 0 terms)) ≡ Got (Writes (line_of ns) (next s))
  print_acts ns rest terms e same =
      ap (λ (a : Answer (List (List ℕ))). and_then a (λ (ts : List (List ℕ)). Got (Writes (machine_line ts) (next s)))) (texts_are [] ns rest terms 0 e refl same)
      ∙ ap (λ (l : List ℕ). Got (Writes l (next s))) (lines ns)
