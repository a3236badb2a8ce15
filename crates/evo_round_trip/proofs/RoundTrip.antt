-- The canonical text of a tree that some text spells is read again.
use Rattle.std.proofs.Common.{◌≡◌, ℕ, suc, ◌+◌, ◌^◌, ◌<◌, lit<, List, [], ◌∷◌, ◌++◌, map, length, get_or, Bool, true, false, codes, Option, Some, None, refl, sym, ◌∙◌, ap, ap₂, subst, inl, inr, append_assoc, append-nil, arith}
use Rattle.std.specs.Prelude.{◌==◌, ◌||◌}
use Rattle.std.specs.List.{flat_map}
use Rattle.std.specs.Fmt.{decimal}
use Rattle.std.specs.Str.{IsUtf8, chars, encode_utf8_all}
use Rattle.std.proofs.lemmas.Str.{chars-append, encodes-chars, IsUtf8-append}
use Rattle.std.proofs.lemmas.Bool.Decides.{Decides-eqb}
use Rattle.evo_combinators.specs.Guard.{Run}
use Rattle.evo_round_trip.proofs.Alike.{AllLike}
use Rattle.evo_lex.specs.Tokenization.{CutFrom, origin, beyond}
use Rattle.evo_lex.specs.Identifier.{IsIdentifier}
use Rattle.evo_lex.proofs.Identifiers.{identifier_lacks}
use Rattle.evo_lex.proofs.Spots.{bytes}
use Rattle.evo_tree.specs.declared.name.Identifier.{Identifier}
use Rattle.evo_base.specs.declared.place.Release.{Release}
use Rattle.evo_tree.specs.declared.module.Form.{Form}
use Rattle.evo_tree.specs.declared.module.Form.TheVariants as form
use Rattle.evo_tree.specs.declared.module.Item.{Item}
use Rattle.evo_tree.specs.declared.module.ModulePart.{ModulePart}
use Rattle.evo_tree.specs.declared.module.ModulePart.TheVariants as part
use Rattle.evo_tree.specs.declared.module.ModuleTree.{ModuleTree}
use Rattle.evo_tree.specs.declared.module.PartSpot.TheVariants as spot
use Rattle.evo_tree.specs.Pieces.{Piece, pieces, pieces_from}
use Rattle.evo_tree.specs.Modules.{imports_of, items_of, after_part, PartOf, PartAt, Parts, IsHeading, IsNamed, nesting, Spells}
use Rattle.evo_tree.specs.Bare.{Same}
use Rattle.evo_tree.specs.Canonical.{Text, import_text, item_text, head_text, canonical_text}
use Rattle.evo_round_trip.specs.RoundTrip.{IsReadAgain, CanonicalTextIsReadAgain}
use Rattle.evo_round_trip.proofs.Written.{Written, joined, is_gap, breaks, Sound}
use Rattle.evo_round_trip.proofs.Matching.{FromText, Alike}
use Rattle.evo_round_trip.proofs.Printed.{Matched}
use Rattle.evo_round_trip.proofs.GenuinePieces.{genuine}
use Rattle.evo_round_trip.proofs.WrittenTexts.{utf8_joined}
use Rattle.evo_round_trip.proofs.WrittenCuts.{written_is_cut}
use Rattle.evo_round_trip.proofs.HeadingLines.{heading_is_white, head_utf8}
use Rattle.evo_round_trip.proofs.SameTexts.{same_text}
use Rattle.evo_round_trip.proofs.PrintedAccessors.{Blocks}
use Rattle.evo_round_trip.proofs.PrintedKinds.{AllOf}
use Rattle.evo_round_trip.proofs.PrintedParts.{Says, SamePart, part_text, alone, PartEach, parts_each}
use Rattle.evo_round_trip.proofs.PrintedModules.{InOrder, Further, whole, parts_of, in_order, each_of, parts_text, imports_like}

matched : (ms : List Piece) (ws : List Written) → Alike ms ws → Matched false ms ws
matched [] [] a = tt
matched [] (w ∷ ws) a = absurd a
matched (m ∷ ms) [] a = absurd a
matched (m ∷ ms) (w ∷ ws) a = a

-- the text of a module without the two lines before it
abbrev body : List Identifier → List Item → Text
body ns is = flat_map import_text ns ++ flat_map item_text is

-- ---- sources of libraries and clients

leads : ModulePart → Bool
leads (part.Import n) = true
leads (part.Items is) = false

leading_is : (x x' : ModulePart) → SamePart x x' → after_part spot.Leading x' ≡ spot.Further (leads x)
unfolding leads
leading_is (part.Import n) (part.Import m) same = refl
leading_is (part.Import n) (part.Items ys) same = absurd same
leading_is (part.Items xs) (part.Import m) same = absurd same
leading_is (part.Items xs) (part.Items ys) same = refl

abbrev FromStart : Form → List Piece → List ModulePart → Type 0
FromStart f ms xs = Run (PartAt Blocks Says f nesting) after_part spot.Leading ms xs

-- the body of a module by its parts
record Start (f : Form) (parts : List ModulePart) : Type 0 where
  written : List Written
  tail : List ℕ
  text : joined written ++ tail ≡ flat_map part_text parts
  blank : is_gap tail ≡ true
  sound : Sound written
  again : (ms : List Piece) → Matched false ms written → (xs : List ModulePart) × FromStart f ms xs × AllLike SamePart parts xs

no_parts : (f : Form) → Start f []
no_parts f = record { written = []; tail = []; text = refl; blank = refl; sound = tt; again = λ ms fits. ([], none ms fits, tt) }
  where
    none : (ms : List Piece) → Matched false ms [] → ms ≡ []
    none [] fits = refl
    none (m ∷ ms) fits = absurd fits

some_parts : (f : Form) (x : ModulePart) (xs : List ModulePart) → AllOf (PartEach f nesting) (x ∷ xs) → InOrder (leads x) xs → Start f (x ∷ xs)
some_parts f x xs all o =
    let w = whole f nesting x xs (leads x) all.0 all.1 o in
    record {
      written = w.written;
      tail = codes "\n";
      text = w.text;
      blank = refl;
      sound = w.sound;
      again = λ ms fits.
          let (xs', (x', rest, ns, ps, is, cut, same, part, run), sames) = w.again ms fits in
          (xs', subst (FromStart f ms) (sym is) (ns, ps, cut, part, subst (λ s. Run (PartAt Blocks Says f nesting) after_part s ps rest) (sym (leading_is x x' same)) run), sames);
    }

start : (f : Form) (ns : List Identifier) (is : List Item) → AllOf (PartEach f nesting) (parts_of ns is) → Start f (parts_of ns is)
unfolding leads
start f [] [] all = no_parts f
start f [] (i ∷ is) all = some_parts f (alone i) (map alone is) all (in_order [] (i ∷ is))
start f (n ∷ ns) is all = some_parts f (part.Import n) (parts_of ns is) all (in_order ns is)

-- ---- interfaces

only_items : (us : List Piece) (xs : List ModulePart) → Further form.Interface nesting false us xs → imports_of xs ≡ []
only_items us [] run = refl
only_items us (x ∷ xs) (vs, ws, cut, one, run) = further x one (only_items ws xs (subst (λ s. Run (PartAt Blocks Says form.Interface nesting) after_part s ws xs) (settled x) run))
  where
    settled : (x : ModulePart) → after_part (spot.Further false) x ≡ spot.Further false
    settled (part.Import n) = refl
    settled (part.Items is) = refl

    no_import : (us : List Piece) (n : Identifier) → PartOf Blocks Says form.Interface nesting false us (part.Import n) → ⊥
    no_import us n (inl (u, c, vs, at, takes, s)) = absurd (none takes)
      where
        none : None ≡ Some c → ⊥
        none e = absurd (cc)
    no_import us n (inr (is, vs, ws, cut, s, (none, same))) = absurd (cc)

    further : (x : ModulePart) → PartAt Blocks Says form.Interface nesting (spot.Further false) vs x → imports_of xs ≡ [] → imports_of (x ∷ xs) ≡ []
    further (part.Items is) one none = none
    further (part.Import n) (inl (u, c, us, at, takes, s)) none = absurd (no_import us n s)
    further (part.Import n) (inr (inl (u, us, at, is, s))) none = absurd (no_import vs n s)
    further (part.Import n) (inr (inr s)) none = absurd s

abbrev FromImport : List Piece → List ModulePart → Type 0
FromImport ms xs = Parts Blocks Says form.Interface nesting ms xs

record InterfaceStart (n : Identifier) (is : List Item) : Type 0 where
  written : List Written
  text : joined written ++ codes "\n" ≡ flat_map part_text (parts_of (n ∷ []) is)
  sound : Sound written
  again : (ms : List Piece) → Matched false ms written → (xs : List ModulePart) × FromImport ms xs × AllLike SamePart (parts_of (n ∷ []) is) xs

interface_start : (n : Identifier) (is : List Item) → AllOf (PartEach form.Interface nesting) (parts_of (n ∷ []) is) → InterfaceStart n is
interface_start n is all =
    let w = whole form.Interface nesting (part.Import n) (map alone is) false all.0 all.1 (items is) in
    record {
      written = w.written;
      text = w.text;
      sound = w.sound;
      again = λ ms fits.
          let (xs', (x', rest, ns, ps, is', cut, same, part, run), sames) = w.again ms fits in
          (xs', subst (FromImport ms) (sym is') (first x' rest ms ns ps cut same part run), sames);
    }
  where
    items : (is : List Item) → InOrder false (map alone is)
    items [] = tt
    items (i ∷ is) = items is

    first : (x' : ModulePart) (rest : List ModulePart) (ms ns ps : List Piece) → ms ≡ ns ++ ps → SamePart (part.Import n) x' → PartOf Blocks Says form.Interface nesting true ns x' → Further form.Interface nesting false ps rest → FromImport ms (x' ∷ rest)
    first (part.Items ys) rest ms ns ps cut same s run = absurd same
    first (part.Import m) rest ms ns ps cut same (inl s) run = (part.Import m, ns, ps, cut, s, (rest, ps, [], sym (append-nil ps), run, (refl, refl)))
    first (part.Import m) rest ms ns ps cut same (inr (js, vs, ws, cut', s, (none, e))) run = absurd (cc)

-- ---- texts

abbrev tree : Form → List ℕ → Option Release → List Identifier → List Item → ModuleTree
tree f name release ns is = record { form = f; name = name; release = release; imports = ns; items = is }

same_tree : (f : Form) (name : List ℕ) (release : Option Release) (ns : List Identifier) (is : List Item) (xs : List ModulePart) → AllLike SamePart (parts_of ns is) xs → Same (tree f name release ns is) (tree f name release (imports_of xs) (items_of xs))
same_tree f name release ns is xs likes = let (a, b) = imports_like ns is xs likes in ap₂ (λ v w. tree f name release v w) a b

-- a source of this form, which begins with no lines of its own
read_plain : (f : Form) (name : List ℕ) (release : Option Release) (ns : List Identifier) (is : List Item) → ((ms : List Piece) (xs : List ModulePart) → FromStart f ms xs → Parts Blocks Says f nesting ms xs) →
    (text : List ℕ) → canonical_text (tree f name release ns is) ≡ flat_map import_text ns ++ flat_map item_text is → IsNamed (canonical_text (tree f name release ns is)) f name release → AllOf (PartEach f nesting) (parts_of ns is) → IsReadAgain (tree f name release ns is)
read_plain f name release ns is parts text plain named all =
    let b = start f ns is all in
    let whole : joined b.written ++ b.tail ≡ canonical_text (tree f name release ns is) = b.text ∙ parts_text ns is ∙ sym plain in
    let (tokens, cut, alike) = written_is_cut b.written b.sound b.tail b.blank origin in
    let ms = pieces_from (canonical_text (tree f name release ns is)) None tokens in
    let (xs, spelled, likes) = b.again ms (matched ms b.written (subst (λ z. Alike (pieces_from z None tokens) b.written) whole (alike [] refl))) in
    record {
      read = tree f name release (imports_of xs) (items_of xs);
      spells = record {
        tokens = tokens;
        cut = record { utf8 = subst IsUtf8 whole (utf8_joined b.written b.sound b.tail b.blank); cut = subst (λ z. CutFrom origin (chars z) tokens) whole cut };
        parts = xs;
        spelled = parts ms xs spelled;
        form_is = refl;
        named = named;
        imports_are = refl;
        items_are = refl;
      };
      same = same_tree f name release ns is xs likes;
    }

-- a line feed is no part of an identifier
no_feed : (name : List ℕ) → IsUtf8 name → IsIdentifier name → breaks name ≡ false
no_feed name utf8 is = go name (λ i lt. identifier_lacks 10 (lit< tt) refl name utf8 is i lt)
  where
    other : (c : ℕ) → (c ≡ 10 → ⊥) → (c == 10) ≡ false
    other c never = decide (c == 10) refl
      where
        decide : (b : Bool) → (c == 10) ≡ b → (c == 10) ≡ false
        decide true e = absurd (never ((Decides-eqb c 10).0 e))
        decide false e = e

    go : (cs : List ℕ) → ((i : ℕ) → i < length cs → get_or cs i 0 ≡ 10 → ⊥) → breaks cs ≡ false
    go [] never = refl
    go (c ∷ cs) never = ap₂ (λ a b. a || b) (other c (never 0 (omega arith))) (go cs (λ i lt. never (suc i) (omega (arith, lt))))

-- the bytes behind some characters at the beginning of a text
bytes_at : (head : Text) → IsUtf8 head → length head ≡ (beyond (chars head) origin).at
bytes_at head utf8 =
    let at : (beyond (chars head) origin).at ≡ 0 + length (encode_utf8_all (chars head)) = bytes (chars head) origin in
    let same : length (encode_utf8_all (chars head)) ≡ length head = ap length (encodes-chars head utf8) in
    omega (arith, at, same)

module _ (name : List ℕ) (r : Release) (ns : List Identifier) (is : List Item) where
  heading : Text → Text → Text → Text
  heading a b rest = (codes "// swift-interface-format-version: 1.0\n// swevo-module: " ++ name ++ codes " " ++ (a ++ codes "." ++ b) ++ codes "\n") ++ rest

  heading_lines : (a b rest : Text) → heading a b rest ≡ codes "// swift-interface-format-version: 1.0" ++ (10 ∷ []) ++ codes "// swevo-module: " ++ name ++ codes " " ++ a ++ codes "." ++ b ++ (10 ∷ []) ++ rest
  unfolding heading
  heading_lines a b rest = ap (λ z. codes "// swift-interface-format-version: 1.0\n// swevo-module: " ++ z) (left ∙ sym right)
    where
      left : (name ++ codes " " ++ (a ++ codes "." ++ b) ++ codes "\n") ++ rest ≡ name ++ (codes " " ++ (a ++ (codes "." ++ (b ++ (codes "\n" ++ rest)))))
      left = simp append_assoc

      right : name ++ codes " " ++ a ++ codes "." ++ b ++ (10 ∷ []) ++ rest ≡ name ++ (codes " " ++ (a ++ (codes "." ++ (b ++ (codes "\n" ++ rest)))))
      right = simp append_assoc

  headed_text : canonical_text (tree form.Interface name (Some r) ns is) ≡ head_text name r ++ (flat_map import_text ns ++ flat_map item_text is)
  headed_text = append_assoc (head_text name r) (flat_map import_text ns) (flat_map item_text is)

  small : {n : ℕ} → n < 2 ^ 32 → n < 2 ^ 64
  small {n} lt = let step : 2 ^ 32 < 2 ^ 64 = lit< tt in omega (arith, lt, step)

  read_interface : (text : List ℕ) (n : Identifier) → ns ≡ n ∷ [] → IsHeading text name r → AllOf (PartEach form.Interface nesting) (parts_of (n ∷ []) is) → IsReadAgain (tree form.Interface name (Some r) ns is)
  unfolding heading head_text
  read_interface text n one h all =
      let b = interface_start n is all in
      let head : Text = head_text name r in
      let utf8 : IsUtf8 head = head_utf8 name r h.utf8 (no_feed name h.utf8 h.name_is.identifier) (small h.major) (small h.minor) in
      let rest : Text = joined b.written ++ codes "\n" in
      let whole : head ++ rest ≡ canonical_text (tree form.Interface name (Some r) ns is) =
      ap (λ z. head ++ z) (b.text ∙ parts_text (n ∷ []) is ∙ ap (λ z. flat_map import_text z ++ flat_map item_text is) (sym one)) ∙ sym headed_text in
      let (tokens, cut, alike) = written_is_cut b.written b.sound (codes "\n") refl (beyond (chars head) origin) in
      let at : length head ≡ (beyond (chars head) origin).at = bytes_at head utf8 in
      let ms = pieces_from (canonical_text (tree form.Interface name (Some r) ns is)) None tokens in
      let (xs, spelled, likes) = b.again ms (matched ms b.written (subst (λ z. Alike (pieces_from z None tokens) b.written) whole (alike head at))) in
      let all_cut : CutFrom origin (chars (head ++ rest)) tokens =
      subst (λ z. CutFrom origin z tokens) (sym (chars-append head rest utf8)) (heading_is_white name r h.utf8 (no_feed name h.utf8 h.name_is.identifier) (small h.major) (small h.minor) (chars rest) origin tokens cut) in
      record {
        read = tree form.Interface name (Some r) (imports_of xs) (items_of xs);
        spells = record {
          tokens = tokens;
          cut = record { utf8 = subst IsUtf8 whole (IsUtf8-append head rest utf8 (utf8_joined b.written b.sound (codes "\n") refl)); cut = subst (λ z. CutFrom origin (chars z) tokens) whole all_cut };
          parts = xs;
          spelled = spelled;
          form_is = refl;
          named = record {
            utf8 = h.utf8;
            name_is = h.name_is;
            major = h.major;
            minor = h.minor;
            first_end = 10 ∷ [];
            second_end = 10 ∷ [];
            rest = rest;
            ends = inl refl;
            ends_again = inl refl;
            lines = sym whole ∙ heading_lines (decimal r.major) (decimal r.minor) rest;
          };
          imports_are = refl;
          items_are = refl;
        };
        same = same_tree form.Interface name (Some r) ns is xs (subst (λ z. AllLike SamePart (parts_of z is) xs) (sym one) likes);
      }

-- ---- any tree that a text spells

whole_tree : (m : ModuleTree) (f : Form) (ns : List Identifier) (is : List Item) → m.form ≡ f → m.imports ≡ ns → m.items ≡ is → m ≡ tree f m.name m.release ns is
whole_tree m f ns is a b c = ap (λ z. tree z m.name m.release m.imports m.items) a ∙ ap₂ (λ v w. tree f m.name m.release v w) b c

read_spelled : (text : List ℕ) (f : Form) (name : List ℕ) (release : Option Release) (us : List Piece) (xs : List ModulePart) → FromText us → Parts Blocks Says f nesting us xs → IsNamed text f name release → IsReadAgain (tree f name release (imports_of xs) (items_of xs))
read_spelled text (form.Library n) name release us xs gen s named =
    let each = parts_each (form.Library n) nesting us xs gen s in
    read_plain (form.Library n) name release (imports_of xs) (items_of xs) (λ ms ys r. r) text refl named (each_of (form.Library n) nesting (imports_of xs) (items_of xs) each.imports each.items)
read_spelled text form.Client name release us xs gen s named =
    let each = parts_each form.Client nesting us xs gen s in
    read_plain form.Client name release (imports_of xs) (items_of xs) (λ ms ys r. r) text refl named (each_of form.Client nesting (imports_of xs) (items_of xs) each.imports each.items)
read_spelled text form.Interface name None us xs gen s named = absurd named
read_spelled text form.Interface name (Some r) us xs gen s named =
    let each = parts_each form.Interface nesting us xs gen s in
    let (n, one) = one_import s in
    read_interface name r (imports_of xs) (items_of xs) text n one named (subst (λ z. AllOf (PartEach form.Interface nesting) (parts_of z (items_of xs))) one (each_of form.Interface nesting (imports_of xs) (items_of xs) each.imports each.items))
  where
    one_import : Parts Blocks Says form.Interface nesting us xs → (n : Identifier) × (imports_of xs ≡ n ∷ [])
    one_import (x, vs, ws, cut, (u, c, v1, at, takes, (v, n, v2, at', takes', (none, is))), (rest, v3, v4, cut2, run, (none', is'))) =
        (n, ap imports_of is' ∙ ap (λ z. imports_of (z ∷ rest)) is ∙ ap (λ z. n ∷ z) (only_items v3 rest run))

-- a text's tree is read again
pub read_again : (text : List ℕ) (f : Form) (m : ModuleTree) → Spells text f m → IsReadAgain m
read_again text f m s =
    subst IsReadAgain (sym (whole_tree m f (imports_of s.parts) (items_of s.parts) s.form_is s.imports_are s.items_are))
    (read_spelled text f m.name m.release (pieces text s.tokens) s.parts (genuine text s.tokens s.cut) s.spelled s.named)

-- and so is each tree that is the same
pub canonical_text_is_read_again : CanonicalTextIsReadAgain
canonical_text_is_read_again tree is =
    let again = read_again is.text is.form is.spelled is.spells in
    record {
      read = again.read;
      spells = subst (λ z. Spells z tree.form again.read) (sym (same_text tree is.spelled is.same)) (subst (λ f. Spells (canonical_text is.spelled) f again.read) (ap (λ (t : ModuleTree). t.form) (sym is.same)) again.spells);
      same = is.same ∙ again.same;
    }
