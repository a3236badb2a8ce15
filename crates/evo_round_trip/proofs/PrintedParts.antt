-- What stands at the top level of a module is written: imports, declarations and statements.
use Rattle.std.proofs.Common.{◌≡◌, ℕ, List, [], ◌∷◌, ◌++◌, map, Bool, true, false, codes, Some, None, refl, sym, ◌∙◌, ap, subst, inl, inr, append-nil}
use Rattle.std.specs.List.{flat_map}
use Rattle.evo_combinators.specs.Rule.{Empty, TokenThen}
use Rattle.evo_combinators.specs.Guard.{Run}
use Rattle.evo_tree.specs.declared.name.Identifier.{Identifier}
use Rattle.evo_tree.specs.declared.statement.Stmt.{Stmt}
use Rattle.evo_tree.specs.declared.declaration.Decl.{Decl}
use Rattle.evo_tree.specs.declared.module.Form.{Form}
use Rattle.evo_tree.specs.declared.module.Form.TheVariants as form
use Rattle.evo_tree.specs.declared.module.Item.{Item}
use Rattle.evo_tree.specs.declared.module.Item.TheVariants as item
use Rattle.evo_tree.specs.declared.module.ModulePart.{ModulePart}
use Rattle.evo_tree.specs.declared.module.ModulePart.TheVariants as part
use Rattle.evo_tree.specs.declared.module.PartSpot.{PartSpot}
use Rattle.evo_tree.specs.declared.module.PartSpot.TheVariants as spot
use Rattle.evo_tree.specs.declared.terminal.Terminal.TheVariants as t
use Rattle.evo_tree.specs.Pieces.{Piece, mark, identifier}
use Rattle.evo_tree.specs.Expressions.{Rule}
use Rattle.evo_tree.specs.Statements.{Later, IsStmt}
use Rattle.evo_tree.specs.Declarations.{only_if, IsDeclaration}
use Rattle.evo_tree.specs.Modules.{imports_of, items_of, after_part, is_interface, Declared, Items, PartOf, PartAt, Parts}
use Rattle.evo_tree.specs.Bare.{bare_item}
use Rattle.evo_tree.specs.Canonical.{Text, line, import_text, item_text, decl_text, stmt_text}
use Rattle.evo_round_trip.proofs.Written.{Written, joined, Sound}
use Rattle.evo_round_trip.proofs.Matching.{FromText}
use Rattle.evo_round_trip.proofs.Printed.{begins, any_begins, is_apart, is_flush, is_free, leads_free, Matched, genuine_left, genuine_right, begins_within}
use Rattle.evo_round_trip.proofs.Prints.{Writes, print_only, print_led}
use Rattle.evo_round_trip.proofs.Spellings.{sign, named}
use Rattle.evo_round_trip.proofs.TakenTokens.{taken_mark, taken_name, SameName}
use Rattle.evo_round_trip.proofs.Heads.{is_calm, calm_flush, leads_apart}
use Rattle.evo_round_trip.proofs.StatementTrees.{stmt_line}
use Rattle.evo_round_trip.proofs.PrintedBlocks.{later_prints}
use Rattle.evo_round_trip.proofs.PrintedStatements.{stated}
use Rattle.evo_round_trip.proofs.PrintedAccessors.{Blocks}
use Rattle.evo_round_trip.proofs.PrintedKinds.{AllOf}
use Rattle.evo_round_trip.proofs.PrintedDeclarations.{Each}
use Rattle.evo_round_trip.proofs.PrintedTop.{declaration_each}
use Rattle.evo_round_trip.proofs.GetterBlocks.{getter_prints}
use Rattle.evo_round_trip.proofs.PrintedAttributes.{attributes_front}
use Rattle.evo_round_trip.proofs.PrintedModifiers.{modifiers_front}

-- a statement of a client
abbrev pub Says : ℕ → Rule Stmt
Says d = Later (IsStmt false d)

abbrev pub SamePart : ModulePart → ModulePart → Type 0
SamePart (part.Import n) (part.Import m) = SameName n m
SamePart (part.Items xs) (part.Items ys) = map bare_item xs ≡ map bare_item ys
SamePart (part.Import n) (part.Items ys) = ⊥
SamePart (part.Items xs) (part.Import m) = ⊥

-- a part may stand where an import may stand or not
abbrev pub Stands : ModulePart → Bool → Type 0
Stands (part.Import n) may = may ≡ true
Stands (part.Items xs) may = Unit {0}

abbrev pub part_text : ModulePart → Text
part_text (part.Import n) = import_text n
part_text (part.Items xs) = flat_map item_text xs

-- an item as a part
abbrev pub alone : Item → ModulePart
alone i = part.Items (i ∷ [])

-- a part is written
pub record PartEach (f : Form) (d : ℕ) (x : ModulePart) : Type 0 where
  pub written : List Written
  pub text : part_text x ≡ line 0 (joined written)
  pub sound : Sound written
  pub begun : begins false is_flush written ≡ true
  pub again : (ms : List Piece) → Matched false ms written → (x' : ModulePart) × ((may : Bool) → Stands x may → PartOf Blocks Says f d may ms x') × SamePart x x'

module _ (f : Form) (d : ℕ) where
  -- ---- imports

  import_prints : Writes false false is_flush (λ n. codes "import " ++ n.text) SameName (TokenThen (mark t.Import) (λ _. TokenThen identifier (λ n. Empty n))) (TokenThen (mark t.Import) (λ _. TokenThen identifier (λ n. Empty n)))
  import_prints = print_led {e' = false} {q = is_apart} (taken_mark t.Import [] refl refl (λ u g i. refl)) (λ c ws b. leads_apart _ (sign [] t.Import) ws refl b)
      (λ c. print_led {e' = true} {q = is_free} (taken_name (codes " ") refl (λ u w g i same. refl)) (λ n ws b. leads_free _ (named (codes " ") n.text) ws refl b)
      (λ n. print_only (ap (λ z. codes "import " ++ z) (append-nil n.text)) (λ a near. near.1)))

  import_each : (us : List Piece) (n : Identifier) → FromText us → TokenThen (mark t.Import) (λ _. TokenThen identifier (λ n. Empty n)) us n → PartEach f d (part.Import n)
  import_each us n gen s =
      let (ws, written, sound, begun, make) = import_prints.holds us n gen (any_begins us) s in
      record {
        written = ws;
        text = ap (line 0) (sym written);
        sound = sound;
        begun = begun;
        again = λ ms fits. let (m, (u, c, vs, at, takes, (v, k, rest, at', takes', (none, is))), same) = make tt tt ms fits in
            (part.Import m, λ may stands. inl (subst (λ b. TokenThen (only_if b (mark t.Import)) (λ _. TokenThen identifier (λ n. Empty (part.Import n))) ms (part.Import m)) (sym stands) (u, c, vs, at, takes, (v, k, rest, at', takes', (none, ap (λ z. part.Import z) is)))), same);
      }

  -- ---- declarations and statements

  in_items : (may : Bool) (ms : List Piece) (is : List Item) → Items Blocks Says f d ms is → PartOf Blocks Says f d may ms (part.Items is)
  in_items may ms is s = inr (is, ms, [], sym (append-nil ms), s, (refl, refl))

  declared : (ms : List Piece) (x : Decl) → IsDeclaration Blocks (is_interface f) d ms (x ∷ []) → Declared Blocks Says f d ms (item.Decl x ∷ [])
  declared ms x s = (x ∷ [], ms, [], sym (append-nil ms), s, (refl, refl))

  declared_items : (f' : Form) (ms : List Piece) (is : List Item) → Declared Blocks Says f' d ms is → Items Blocks Says f' d ms is
  declared_items (form.Library n) ms is s = s
  declared_items form.Client ms is s = inl s
  declared_items form.Interface ms is s = s

  decl_each : (x : Decl) → Each (IsDeclaration Blocks (is_interface f) d) 0 x → PartEach f d (alone (item.Decl x))
  decl_each x each = record {
    written = each.written;
    text = append-nil (decl_text x 0) ∙ each.text;
    sound = each.sound;
    begun = begins_within false false is_calm is_flush each.written (λ h. h) calm_flush each.begun;
    again = λ ms fits. let (x', s, same) = each.again ms fits in
        (alone (item.Decl x'), λ may stands. in_items may ms (item.Decl x' ∷ []) (declared_items f ms (item.Decl x' ∷ []) (declared ms x' s)), ap (λ z. item.Decl z ∷ []) same);
  }

  decls_each : (xs : List Decl) → AllOf (Each (IsDeclaration Blocks (is_interface f) d) 0) xs → AllOf (λ i. PartEach f d (alone i)) (map item.Decl xs)
  decls_each [] all = tt
  decls_each (x ∷ xs) (each, all) = (decl_each x each, decls_each xs all)

  declared_each : (us : List Piece) (is : List Item) → FromText us → Declared Blocks Says f d us is → AllOf (λ i. PartEach f d (alone i)) is
  declared_each us is gen (ds, vs, ws, cut, s, (none, same)) =
      subst (AllOf (λ i. PartEach f d (alone i))) (sym same)
      (decls_each ds (declaration_each (getter_prints (λ d. stated false d)) attributes_front modifiers_front (is_interface f) d 0 vs ds (genuine_left vs ws (subst FromText cut gen)) s))

said_each : (d : ℕ) (us : List Piece) (x : Stmt) → FromText us → Says d us x → PartEach form.Client d (alone (item.Stmt x))
said_each d us x gen s =
    let (ws, written, sound, begun, make) = (later_prints (IsStmt false d) (stated false d) 0).holds us x gen (any_begins us) s in
    record {
      written = ws;
      text = append-nil (stmt_text x 0) ∙ stmt_line x 0 ∙ ap (line 0) (sym written);
      sound = sound;
      begun = begun;
      again = λ ms fits. let (x', s', same) = make tt tt ms fits in
          (alone (item.Stmt x'), λ may stands. in_items form.Client d may ms (item.Stmt x' ∷ []) (inr (x', ms, [], sym (append-nil ms), s', (refl, refl))), ap (λ z. item.Stmt z ∷ []) same);
    }

items_each : (f : Form) (d : ℕ) (us : List Piece) (is : List Item) → FromText us → Items Blocks Says f d us is → AllOf (λ i. PartEach f d (alone i)) is
items_each (form.Library n) d us is gen s = declared_each (form.Library n) d us is gen s
items_each form.Interface d us is gen s = declared_each form.Interface d us is gen s
items_each form.Client d us is gen (inl s) = declared_each form.Client d us is gen s
items_each form.Client d us is gen (inr (x, vs, ws, cut, s, (none, same))) =
    subst (AllOf (λ i. PartEach form.Client d (alone i))) (sym same) (said_each d vs x (genuine_left vs ws (subst FromText cut gen)) s, tt)

-- ---- the parts of a text

pub record PartsEach (f : Form) (d : ℕ) (parts : List ModulePart) : Type 0 where
  pub imports : AllOf (λ n. PartEach f d (part.Import n)) (imports_of parts)
  pub items : AllOf (λ i. PartEach f d (alone i)) (items_of parts)

all_append : {X : Type 0} (P : X → Type 0) (xs ys : List X) → AllOf P xs → AllOf P ys → AllOf P (xs ++ ys)
all_append P [] ys p q = q
all_append P (x ∷ xs) ys p q = (p.0, all_append P xs ys p.1 q)

module _ (f : Form) (d : ℕ) where
  imported_each : (b : Bool) (us : List Piece) (x : ModulePart) → FromText us → TokenThen (only_if b (mark t.Import)) (λ _. TokenThen identifier (λ n. Empty (part.Import n))) us x → (rest : List ModulePart) → PartsEach f d rest → PartsEach f d (x ∷ rest)
  imported_each true us x gen (u, c, vs, at, takes, (v, n, ws, at', takes', (none, is))) rest each =
      subst (λ z. PartsEach f d (z ∷ rest)) (sym is) (record { imports = (import_each f d us n gen (u, c, vs, at, takes, (v, n, ws, at', takes', (none, refl))), each.imports); items = each.items })
  imported_each false us x gen (u, c, vs, at, takes, r) rest each = absurd (none takes)
    where
      none : None ≡ Some c → ⊥
      none e = absurd (cc)

  part_each : (may : Bool) (us : List Piece) (x : ModulePart) → FromText us → PartOf Blocks Says f d may us x → (rest : List ModulePart) → PartsEach f d rest → PartsEach f d (x ∷ rest)
  part_each may us x gen (inl s) rest each = imported_each may us x gen s rest each
  part_each may us x gen (inr (is, vs, ws, cut, s, (none, same))) rest each =
      subst (λ z. PartsEach f d (z ∷ rest)) (sym same) (record { imports = each.imports; items = all_append (λ i. PartEach f d (alone i)) is (items_of rest) (items_each f d vs is (genuine_left vs ws (subst FromText cut gen)) s) each.items })

  spot_each : (s : PartSpot) (us : List Piece) (x : ModulePart) → FromText us → PartAt Blocks Says f d s us x → (rest : List ModulePart) → PartsEach f d rest → PartsEach f d (x ∷ rest)
  spot_each spot.Leading us x gen s rest each = part_each true us x gen s rest each
  spot_each (spot.Further may) us x gen (inl (u, c, vs, at, takes, s)) rest each = part_each may vs x (subst FromText at gen).2 s rest each
  spot_each (spot.Further may) us x gen (inr (inl (u, vs, at, is, s))) rest each = part_each may us x gen s rest each
  spot_each (spot.Further may) us x gen (inr (inr s)) rest each = absurd s

  run_each : (s : PartSpot) (us : List Piece) (xs : List ModulePart) → FromText us → Run (PartAt Blocks Says f d) after_part s us xs → PartsEach f d xs
  run_each s us [] gen run = record { imports = tt; items = tt }
  run_each s us (x ∷ xs) gen (vs, ws, cut, one, more) =
      let gen' : FromText (vs ++ ws) = subst FromText cut gen in
      spot_each s vs x (genuine_left vs ws gen') one xs (run_each (after_part s x) ws xs (genuine_right vs ws gen') more)

-- each import and each item of a text is written
pub parts_each : (f : Form) (d : ℕ) (us : List Piece) (xs : List ModulePart) → FromText us → Parts Blocks Says f d us xs → PartsEach f d xs
parts_each (form.Library n) d us xs gen s = run_each (form.Library n) d spot.Leading us xs gen s
parts_each form.Client d us xs gen s = run_each form.Client d spot.Leading us xs gen s
parts_each form.Interface d us xs gen (x, vs, ws, cut, one, (rest, v2, w2, cut2, run, (none, is))) =
    let gen' : FromText (vs ++ ws) = subst FromText cut gen in
    subst (PartsEach form.Interface d) (sym is) (imported_each form.Interface d true vs x (genuine_left vs ws gen') one rest (run_each form.Interface d (spot.Further false) v2 rest (genuine_left v2 w2 (subst FromText cut2 (genuine_right vs ws gen'))) run))
