-- Different plain keys have different symbols: a text is cut at its signs in one way.
use Rattle.std.proofs.Common.{◌≡◌, ℕ, List, [], ◌∷◌, ◌++◌, Bool, true, false, not, ◌&&◌, Option, Some, None, codes, refl, sym, ap, ◌∙◌, subst, append_assoc}
use Rattle.std.specs.Prelude.{if◌then◌else◌, nat_eq}
use Rattle.std.specs.List.{list_all}
use Rattle.std.specs.Str.{bytes_eq}
use Rattle.std.proofs.lemmas.List.{append_cancel_left, append_cancel_right}
use Rattle.std.proofs.lemmas.Slice.Eq.{bytes_eq-Decides}
use Rattle.evo_base.specs.declared.key.ProtocolName.{ProtocolName}
use Rattle.evo_base.specs.declared.key.Mark.{Mark}
use Rattle.evo_base.specs.declared.key.Mark.TheVariants as mark
use Rattle.evo_base.specs.declared.key.Key.{Key}
use Rattle.evo_code.specs.Symbols.{Text, protocol_text, mark_text, marks_text, each_label, labels_text, context_text, module_text, symbol_text, is_sign, is_plain, are_plain, are_plain_labels, is_plain_protocol, is_plain_mark, is_thunk, has_thunk_last, is_empty, is_plain_key}
use Rattle.evo_code.specs.Laws.{DifferentSymbols}

-- ---- tests

both-left : (a b : Bool) → (a && b) ≡ true → a ≡ true
both-left true b e = refl
both-left false b e = absurd cc

both-right : (a b : Bool) → (a && b) ≡ true → b ≡ true
both-right true b e = e
both-right false b e = absurd cc

not-true : (a : Bool) → not a ≡ true → a ≡ true → ⊥
not-true true e h = absurd cc
not-true false e h = absurd cc

differ : {A : Type 0} → true ≡ false → A
differ e = absurd cc

tails : (a b : ℕ) (x y : Text) → a ∷ x ≡ b ∷ y → x ≡ y
tails a b x y e = cc

-- ---- cutting at a sign

abbrev has_no_sign : Text → Bool
has_no_sign bs = list_all (λ c. not (is_sign c)) bs

-- a text begins with another
abbrev begins : Text → Text → Bool
begins [] bs = true
begins (a ∷ as') [] = false
begins (a ∷ as') (b ∷ bs) = nat_eq a b && begins as' bs

-- nothing is left, or a sign comes next
abbrev stops : Text → Bool
stops [] = true
stops (b ∷ bs) = is_sign b

cut : (u v r s : Text) → has_no_sign u ≡ true → has_no_sign v ≡ true → stops r ≡ true → stops s ≡ true → u ++ r ≡ v ++ s → (u ≡ v) × (r ≡ s)
cut [] [] r s pu pv sr ss e = (refl, e)
cut [] (b ∷ v) [] s pu pv sr ss e = absurd cc
cut [] (b ∷ v) (c ∷ r) s pu pv sr ss e =
    let same : c ≡ b = cc in
    absurd (not-true (is_sign b) (both-left _ _ pv) (ap is_sign (sym same) ∙ sr))
cut (a ∷ u) [] r [] pu pv sr ss e = absurd cc
cut (a ∷ u) [] r (c ∷ s) pu pv sr ss e =
    let same : c ≡ a = cc in
    absurd (not-true (is_sign a) (both-left _ _ pu) (ap is_sign (sym same) ∙ ss))
cut (a ∷ u) (b ∷ v) r s pu pv sr ss e =
    let rest : u ++ r ≡ v ++ s = cc in
    let k = cut u v r s (both-right _ _ pu) (both-right _ _ pv) sr ss rest in
    (let same : a ≡ b = cc in let words : u ≡ v = k.0 in cc, k.1)

plain-no_sign : (n : Text) → is_plain n ≡ true → has_no_sign n ≡ true
plain-no_sign [] e = refl
plain-no_sign (b ∷ bs) e = e

cut-plain : (u v r s : Text) → is_plain u ≡ true → is_plain v ≡ true → stops r ≡ true → stops s ≡ true → u ++ r ≡ v ++ s → (u ≡ v) × (r ≡ s)
cut-plain u v r s pu pv sr ss e = cut u v r s (plain-no_sign u pu) (plain-no_sign v pv) sr ss e

-- ---- marks by what they are made of

-- what stands behind the word of a mark
data Ending : Type 0 where
  plainly : Ending
  getting : Ending
  setting : Ending

-- what stands behind the protocol of a mark
data Purpose : Type 0 where
  declared : Purpose
  inherited : Purpose
  associated : Purpose

data Shape : Type 0 where
  Word : Text → Ending → Shape
  Of : ProtocolName → Purpose → Shape
  Free : Text → Shape

abbrev ending_text : Ending → Text
ending_text plainly = []
ending_text getting = codes ".get"
ending_text setting = codes ".set"

abbrev purpose_text : Purpose → Text
purpose_text declared = []
purpose_text inherited = codes "#conformance"
purpose_text associated = codes "#associated"

abbrev shape : Mark → Shape
shape mark.Get = Word (codes "get") plainly
shape mark.Set = Word (codes "set") plainly
shape mark.Requirement = Word (codes "requirement") plainly
shape mark.RequirementGet = Word (codes "requirement") getting
shape mark.RequirementSet = Word (codes "requirement") setting
shape mark.Case = Word (codes "case") plainly
shape mark.Is = Word (codes "is") plainly
shape mark.Take = Word (codes "take") plainly
shape mark.New = Word (codes "new") plainly
shape mark.Size = Word (codes "size") plainly
shape mark.Instance = Word (codes "instance") plainly
shape mark.Class = Word (codes "class") plainly
shape mark.Protocol = Word (codes "protocol") plainly
shape mark.Copy = Word (codes "copy") plainly
shape mark.Override = Word (codes "override") plainly
shape mark.Start = Word (codes "start") plainly
shape (mark.Conformance p) = Of p declared
shape (mark.Inherited p) = Of p inherited
shape (mark.Associated p) = Of p associated
shape (mark.Thunk s) = Free s

-- the mark of a shape
abbrev word_mark : Text → Mark
word_mark t =
    if bytes_eq t (codes "get") then mark.Get else
    if bytes_eq t (codes "set") then mark.Set else
    if bytes_eq t (codes "requirement") then mark.Requirement else
    if bytes_eq t (codes "case") then mark.Case else
    if bytes_eq t (codes "is") then mark.Is else
    if bytes_eq t (codes "take") then mark.Take else
    if bytes_eq t (codes "new") then mark.New else
    if bytes_eq t (codes "size") then mark.Size else
    if bytes_eq t (codes "instance") then mark.Instance else
    if bytes_eq t (codes "class") then mark.Class else
    if bytes_eq t (codes "protocol") then mark.Protocol else
    if bytes_eq t (codes "copy") then mark.Copy else
    if bytes_eq t (codes "override") then mark.Override else mark.Start

abbrev unshape : Shape → Mark
unshape (Word t plainly) = word_mark t
unshape (Word t getting) = mark.RequirementGet
unshape (Word t setting) = mark.RequirementSet
unshape (Of p declared) = mark.Conformance p
unshape (Of p inherited) = mark.Inherited p
unshape (Of p associated) = mark.Associated p
unshape (Free s) = mark.Thunk s

unshapes : (m : Mark) → unshape (shape m) ≡ m
unshapes mark.Get = refl
unshapes mark.Set = refl
unshapes mark.Requirement = refl
unshapes mark.RequirementGet = refl
unshapes mark.RequirementSet = refl
unshapes mark.Case = refl
unshapes mark.Is = refl
unshapes mark.Take = refl
unshapes mark.New = refl
unshapes mark.Size = refl
unshapes mark.Instance = refl
unshapes mark.Class = refl
unshapes mark.Protocol = refl
unshapes mark.Copy = refl
unshapes mark.Override = refl
unshapes mark.Start = refl
unshapes (mark.Conformance p) = refl
unshapes (mark.Inherited p) = refl
unshapes (mark.Associated p) = refl
unshapes (mark.Thunk s) = refl

-- the text of a shape, and what follows
abbrev shape_text : Shape → Text → Text
shape_text (Word t e) r = 35 ∷ (t ++ (ending_text e ++ r))
shape_text (Of p u) r = 58 ∷ (p.module ++ (46 ∷ (p.name ++ (purpose_text u ++ r))))
shape_text (Free s) r = 47 ∷ (s ++ (codes "#thunk" ++ r))

shape_text-of : (m : Mark) (r : Text) → mark_text m ++ r ≡ shape_text (shape m) r
shape_text-of mark.Get r = refl
shape_text-of mark.Set r = refl
shape_text-of mark.Requirement r = refl
shape_text-of mark.RequirementGet r = refl
shape_text-of mark.RequirementSet r = refl
shape_text-of mark.Case r = refl
shape_text-of mark.Is r = refl
shape_text-of mark.Take r = refl
shape_text-of mark.New r = refl
shape_text-of mark.Size r = refl
shape_text-of mark.Instance r = refl
shape_text-of mark.Class r = refl
shape_text-of mark.Protocol r = refl
shape_text-of mark.Copy r = refl
shape_text-of mark.Override r = refl
shape_text-of mark.Start r = refl
shape_text-of (mark.Conformance p) r = simp append_assoc
shape_text-of (mark.Inherited p) r = simp append_assoc
shape_text-of (mark.Associated p) r = simp append_assoc
shape_text-of (mark.Thunk s) r = simp append_assoc

-- the word of a shape has no sign, and its names are plain
abbrev is_plain_shape : Shape → Bool
is_plain_shape (Word t e) = has_no_sign t
is_plain_shape (Of p u) = is_plain_protocol p
is_plain_shape (Free s) = true

plain_shape-of : (m : Mark) → is_plain_mark m ≡ true → is_plain_shape (shape m) ≡ true
plain_shape-of mark.Get e = refl
plain_shape-of mark.Set e = refl
plain_shape-of mark.Requirement e = refl
plain_shape-of mark.RequirementGet e = refl
plain_shape-of mark.RequirementSet e = refl
plain_shape-of mark.Case e = refl
plain_shape-of mark.Is e = refl
plain_shape-of mark.Take e = refl
plain_shape-of mark.New e = refl
plain_shape-of mark.Size e = refl
plain_shape-of mark.Instance e = refl
plain_shape-of mark.Class e = refl
plain_shape-of mark.Protocol e = refl
plain_shape-of mark.Copy e = refl
plain_shape-of mark.Override e = refl
plain_shape-of mark.Start e = refl
plain_shape-of (mark.Conformance p) e = e
plain_shape-of (mark.Inherited p) e = e
plain_shape-of (mark.Associated p) e = e
plain_shape-of (mark.Thunk s) e = refl

-- what may stand behind a mark: nothing, or a sign that does not go on with it
abbrev follows : Text → Bool
follows r = stops r && (not (begins (codes ".") r) && (not (begins (codes "(") r) && (not (begins (codes "#conformance") r) && not (begins (codes "#associated") r))))

follows-marks : (ms : List Mark) → follows (marks_text ms) ≡ true
follows-marks [] = refl
follows-marks (m ∷ ms) = of_mark m (marks_text ms)
  where
    of_mark : (m : Mark) (r : Text) → follows (mark_text m ++ r) ≡ true
    of_mark mark.Get r = refl
    of_mark mark.Set r = refl
    of_mark mark.Requirement r = refl
    of_mark mark.RequirementGet r = refl
    of_mark mark.RequirementSet r = refl
    of_mark mark.Case r = refl
    of_mark mark.Is r = refl
    of_mark mark.Take r = refl
    of_mark mark.New r = refl
    of_mark mark.Size r = refl
    of_mark mark.Instance r = refl
    of_mark mark.Class r = refl
    of_mark mark.Protocol r = refl
    of_mark mark.Copy r = refl
    of_mark mark.Override r = refl
    of_mark mark.Start r = refl
    of_mark (mark.Conformance p) r = refl
    of_mark (mark.Inherited p) r = refl
    of_mark (mark.Associated p) r = refl
    of_mark (mark.Thunk s) r = refl

-- it follows, and yet begins so
cannot : {A : Type 0} → (r t : Text) → follows r ≡ true → r ≡ t → follows t ≡ false → A
cannot r t f e n = absurd (let k : true ≡ false = sym f ∙ (ap follows e ∙ n) in cc)

ending-stops : (e : Ending) (r : Text) → follows r ≡ true → stops (ending_text e ++ r) ≡ true
ending-stops plainly r f = both-left _ _ f
ending-stops getting r f = refl
ending-stops setting r f = refl

purpose-stops : (u : Purpose) (r : Text) → follows r ≡ true → stops (purpose_text u ++ r) ≡ true
purpose-stops declared r f = both-left _ _ f
purpose-stops inherited r f = refl
purpose-stops associated r f = refl

same_ending : (d e : Ending) (r s : Text) → follows r ≡ true → follows s ≡ true → ending_text d ++ r ≡ ending_text e ++ s → (d ≡ e) × (r ≡ s)
same_ending plainly plainly r s fr fs e = (refl, e)
same_ending plainly getting r s fr fs e = cannot r _ fr e refl
same_ending plainly setting r s fr fs e = cannot r _ fr e refl
same_ending getting plainly r s fr fs e = cannot s _ fs (sym e) refl
same_ending getting getting r s fr fs e = (refl, append_cancel_left (codes ".get") r s e)
same_ending getting setting r s fr fs e = differ (ap (begins (codes ".get")) e)
same_ending setting plainly r s fr fs e = cannot s _ fs (sym e) refl
same_ending setting getting r s fr fs e = differ (ap (begins (codes ".set")) e)
same_ending setting setting r s fr fs e = (refl, append_cancel_left (codes ".set") r s e)

same_purpose : (d e : Purpose) (r s : Text) → follows r ≡ true → follows s ≡ true → purpose_text d ++ r ≡ purpose_text e ++ s → (d ≡ e) × (r ≡ s)
same_purpose declared declared r s fr fs e = (refl, e)
same_purpose declared inherited r s fr fs e = cannot r _ fr e refl
same_purpose declared associated r s fr fs e = cannot r _ fr e refl
same_purpose inherited declared r s fr fs e = cannot s _ fs (sym e) refl
same_purpose inherited inherited r s fr fs e = (refl, append_cancel_left (codes "#conformance") r s e)
same_purpose inherited associated r s fr fs e = differ (ap (begins (codes "#conformance")) e)
same_purpose associated declared r s fr fs e = cannot s _ fs (sym e) refl
same_purpose associated inherited r s fr fs e = differ (ap (begins (codes "#associated")) e)
same_purpose associated associated r s fr fs e = (refl, append_cancel_left (codes "#associated") r s e)

same_protocol : (p q : ProtocolName) → p.module ≡ q.module → p.name ≡ q.name → p ≡ q
same_protocol p q a b =
    ap (λ (m : Text). let k : ProtocolName = record { «module» = m; name = p.name } in k) a
    ∙ ap (λ (n : Text). let k : ProtocolName = record { «module» = q.module; name = n } in k) b

of_parts : (p q : ProtocolName) (u v : Purpose) → p ≡ q → u ≡ v → Of p u ≡ Of q v
of_parts p q u v a b = cc

word_parts : (t u : Text) (d e : Ending) → t ≡ u → d ≡ e → Word t d ≡ Word u e
word_parts t u d e a b = cc

-- nothing stands behind free text
abbrev ends_free : Shape → Text → Type 0
ends_free (Free s) r = r ≡ []
ends_free x r = Unit {0}

same_shape : (x y : Shape) (r s : Text) → is_plain_shape x ≡ true → is_plain_shape y ≡ true → ends_free x r → ends_free y s → follows r ≡ true → follows s ≡ true → shape_text x r ≡ shape_text y s → (x ≡ y) × (r ≡ s)
same_shape (Word t d) (Word u e) r s px py nx ny fr fs h =
    let k = cut t u (ending_text d ++ r) (ending_text e ++ s) px py (ending-stops d r fr) (ending-stops e s fs) (tails _ _ _ _ h) in
    let m = same_ending d e r s fr fs k.1 in
    (word_parts t u d e k.0 m.0, m.1)
same_shape (Word t d) (Of q v) r s px py nx ny fr fs h = differ (ap (begins (codes "#")) h)
same_shape (Word t d) (Free u) r s px py nx ny fr fs h = differ (ap (begins (codes "#")) h)
same_shape (Of p u) (Word t e) r s px py nx ny fr fs h = differ (ap (begins (codes ":")) h)
same_shape (Of p u) (Of q v) r s px py nx ny fr fs h =
    let k = cut-plain p.module q.module (46 ∷ (p.name ++ (purpose_text u ++ r))) (46 ∷ (q.name ++ (purpose_text v ++ s))) (both-left _ _ px) (both-left _ _ py) refl refl (tails _ _ _ _ h) in
    let rest : p.name ++ (purpose_text u ++ r) ≡ q.name ++ (purpose_text v ++ s) = tails _ _ _ _ k.1 in
    let l = cut-plain p.name q.name (purpose_text u ++ r) (purpose_text v ++ s) (both-right _ _ px) (both-right _ _ py) (purpose-stops u r fr) (purpose-stops v s fs) rest in
    let m = same_purpose u v r s fr fs l.1 in
    (of_parts p q u v (same_protocol p q k.0 l.0) m.0, m.1)
same_shape (Of p u) (Free t) r s px py nx ny fr fs h = differ (ap (begins (codes ":")) h)
same_shape (Free t) (Word u e) r s px py nx ny fr fs h = differ (ap (begins (codes "/")) h)
same_shape (Free t) (Of q v) r s px py nx ny fr fs h = differ (ap (begins (codes "/")) h)
same_shape (Free t) (Free u) r s px py nx ny fr fs h =
    let both : t ++ (codes "#thunk" ++ r) ≡ u ++ codes "#thunk" = let a : t ++ (codes "#thunk" ++ r) ≡ u ++ (codes "#thunk" ++ s) = tails _ _ _ _ h in subst (λ z. t ++ (codes "#thunk" ++ r) ≡ u ++ (codes "#thunk" ++ z)) ny a in
    let a : t ≡ u = append_cancel_right t u (codes "#thunk") (subst (λ z. t ++ (codes "#thunk" ++ z) ≡ u ++ codes "#thunk") nx both) in
    (ap Free a, nx ∙ sym ny)

shape-some : (x : Shape) (r : Text) → shape_text x r ≡ [] → ⊥
shape-some (Word t e) r h = absurd cc
shape-some (Of p u) r h = absurd cc
shape-some (Free s) r h = absurd cc

ends-thunk : (m : Mark) (ms : List Mark) → has_thunk_last (m ∷ ms) ≡ true → ends_free (shape m) (marks_text ms)
ends-thunk (mark.Thunk s) [] h = refl
ends-thunk (mark.Thunk s) (n ∷ ms) h = absurd cc
ends-thunk _ ms h = tt

thunk_last-rest : (m : Mark) (ms : List Mark) → has_thunk_last (m ∷ ms) ≡ true → has_thunk_last ms ≡ true
thunk_last-rest m [] h = refl
thunk_last-rest m (n ∷ ms) h = both-right _ _ h

same_marks : (ms ns : List Mark) → list_all is_plain_mark ms ≡ true → list_all is_plain_mark ns ≡ true → has_thunk_last ms ≡ true → has_thunk_last ns ≡ true → marks_text ms ≡ marks_text ns → ms ≡ ns
same_marks [] [] pm pn tm tn h = refl
same_marks [] (n ∷ ns) pm pn tm tn h = absurd (shape-some (shape n) (marks_text ns) (sym (shape_text-of n (marks_text ns)) ∙ sym h))
same_marks (m ∷ ms) [] pm pn tm tn h = absurd (shape-some (shape m) (marks_text ms) (sym (shape_text-of m (marks_text ms)) ∙ h))
same_marks (m ∷ ms) (n ∷ ns) pm pn tm tn h =
    let k = same_shape (shape m) (shape n) (marks_text ms) (marks_text ns) (plain_shape-of m (both-left _ _ pm)) (plain_shape-of n (both-left _ _ pn)) (ends-thunk m ms tm) (ends-thunk n ns tn) (follows-marks ms) (follows-marks ns) (sym (shape_text-of m (marks_text ms)) ∙ (h ∙ shape_text-of n (marks_text ns))) in
    let rest : ms ≡ ns = same_marks ms ns (both-right _ _ pm) (both-right _ _ pn) (thunk_last-rest m ms tm) (thunk_last-rest n ns tn) k.1 in
    let head : m ≡ n = sym (unshapes m) ∙ (ap unshape k.0 ∙ unshapes n) in
    cc

-- ---- labels

same_each_label : (ls ks : List Text) (r s : Text) → are_plain ls ≡ true → are_plain ks ≡ true → each_label ls ++ (41 ∷ r) ≡ each_label ks ++ (41 ∷ s) → (ls ≡ ks) × (r ≡ s)
same_each_label [] [] r s pl pk h = (refl, cc)
same_each_label [] ([] ∷ ks) r s pl pk h = absurd cc
same_each_label [] ((b ∷ bs) ∷ ks) r s pl pk h =
    let same : 41 ≡ b = cc in
    absurd (not-true (is_sign b) (both-left _ _ (both-left _ _ pk)) (ap is_sign (sym same)))
same_each_label ([] ∷ ls) [] r s pl pk h = absurd cc
same_each_label ((b ∷ bs) ∷ ls) [] r s pl pk h =
    let same : b ≡ 41 = cc in
    absurd (not-true (is_sign b) (both-left _ _ (both-left _ _ pl)) (ap is_sign same))
same_each_label (l ∷ ls) (k ∷ ks) r s pl pk h =
    let e : l ++ (58 ∷ (each_label ls ++ (41 ∷ r))) ≡ k ++ (58 ∷ (each_label ks ++ (41 ∷ s))) = sym (simp append_assoc) ∙ (h ∙ simp append_assoc) in
    let c = cut-plain l k (58 ∷ (each_label ls ++ (41 ∷ r))) (58 ∷ (each_label ks ++ (41 ∷ s))) (both-left _ _ pl) (both-left _ _ pk) refl refl e in
    let rest : each_label ls ++ (41 ∷ r) ≡ each_label ks ++ (41 ∷ s) = tails _ _ _ _ c.1 in
    let m = same_each_label ls ks r s (both-right _ _ pl) (both-right _ _ pk) rest in
    (let a : l ≡ k = c.0 in let b : ls ≡ ks = m.0 in cc, m.1)

labels_text-some : (ls : List Text) (r : Text) → labels_text (Some ls) ++ r ≡ 40 ∷ (each_label ls ++ (41 ∷ r))
labels_text-some ls r = simp append_assoc

same_labels : (l k : Option (List Text)) (r s : Text) → are_plain_labels l ≡ true → are_plain_labels k ≡ true → follows r ≡ true → follows s ≡ true → labels_text l ++ r ≡ labels_text k ++ s → (l ≡ k) × (r ≡ s)
same_labels None None r s pl pk fr fs h = (refl, h)
same_labels None (Some ks) r s pl pk fr fs h = cannot r _ fr h refl
same_labels (Some ls) None r s pl pk fr fs h = cannot s _ fs (sym h) refl
same_labels (Some ls) (Some ks) r s pl pk fr fs h =
    let e : 40 ∷ (each_label ls ++ (41 ∷ r)) ≡ 40 ∷ (each_label ks ++ (41 ∷ s)) = sym (labels_text-some ls r) ∙ (h ∙ labels_text-some ks s) in
    let m = same_each_label ls ks r s pl pk (tails _ _ _ _ e) in
    (let a : ls ≡ ks = m.0 in cc, m.1)

-- what stands behind the base begins with a sign, and with no dot
labels-stop : (l : Option (List Text)) (r : Text) → follows r ≡ true → stops (labels_text l ++ r) ≡ true
labels-stop None r f = both-left _ _ f
labels-stop (Some ls) r f = refl

labels-undotted : {A : Type 0} → (l : Option (List Text)) (r t : Text) → follows r ≡ true → labels_text l ++ r ≡ 46 ∷ t → A
labels-undotted None r t f e = cannot r _ f e refl
labels-undotted (Some ls) r t f e = differ (sym (ap (begins (codes ".")) e))

-- ---- the context and the module

same_context : (cs ds : List Text) (a b : Text) (l k : Option (List Text)) (r s : Text) → are_plain cs ≡ true → are_plain ds ≡ true → is_plain a ≡ true → is_plain b ≡ true → follows r ≡ true → follows s ≡ true
    → context_text cs ++ (a ++ (labels_text l ++ r)) ≡ context_text ds ++ (b ++ (labels_text k ++ s)) → (cs ≡ ds) × (a ≡ b) × (labels_text l ++ r ≡ labels_text k ++ s)
same_context [] [] a b l k r s pc pd pa pb fr fs h =
    let c = cut-plain a b (labels_text l ++ r) (labels_text k ++ s) pa pb (labels-stop l r fr) (labels-stop k s fs) h in
    (refl, c.0, c.1)
same_context [] (d ∷ ds) a b l k r s pc pd pa pb fr fs h =
    let e : a ++ (labels_text l ++ r) ≡ d ++ (46 ∷ (context_text ds ++ (b ++ (labels_text k ++ s)))) = h ∙ simp append_assoc in
    let c = cut-plain a d (labels_text l ++ r) (46 ∷ (context_text ds ++ (b ++ (labels_text k ++ s)))) pa (both-left _ _ pd) (labels-stop l r fr) refl e in
    labels-undotted l r _ fr c.1
same_context (c ∷ cs) [] a b l k r s pc pd pa pb fr fs h =
    let e : b ++ (labels_text k ++ s) ≡ c ++ (46 ∷ (context_text cs ++ (a ++ (labels_text l ++ r)))) = sym h ∙ simp append_assoc in
    let d = cut-plain b c (labels_text k ++ s) (46 ∷ (context_text cs ++ (a ++ (labels_text l ++ r)))) pb (both-left _ _ pc) (labels-stop k s fs) refl e in
    labels-undotted k s _ fs d.1
same_context (c ∷ cs) (d ∷ ds) a b l k r s pc pd pa pb fr fs h =
    let e : c ++ (46 ∷ (context_text cs ++ (a ++ (labels_text l ++ r)))) ≡ d ++ (46 ∷ (context_text ds ++ (b ++ (labels_text k ++ s)))) = sym (simp append_assoc) ∙ (h ∙ simp append_assoc) in
    let t = cut-plain c d (46 ∷ (context_text cs ++ (a ++ (labels_text l ++ r)))) (46 ∷ (context_text ds ++ (b ++ (labels_text k ++ s)))) (both-left _ _ pc) (both-left _ _ pd) refl refl e in
    let rest : context_text cs ++ (a ++ (labels_text l ++ r)) ≡ context_text ds ++ (b ++ (labels_text k ++ s)) = tails _ _ _ _ t.1 in
    let m = same_context cs ds a b l k r s (both-right _ _ pc) (both-right _ _ pd) pa pb fr fs rest in
    (let x : c ≡ d = t.0 in let y : cs ≡ ds = m.0 in cc, m.1, m.2)

-- the module, as it stands before the context's first name or is that name
abbrev prefix : Bool → Text → Text
prefix true m = []
prefix false m = m ++ codes ":"

prefix-of : (m c : Text) (cs : List Text) → module_text m (c ∷ cs) ≡ prefix (bytes_eq m c) m
prefix-of m c cs = of_test (bytes_eq m c)
  where
    of_test : (t : Bool) → (if t then [] else m ++ codes ":") ≡ prefix t m
    of_test true = refl
    of_test false = refl

same_front : (p q : Bool) (m n c d x y : Text) → bytes_eq m c ≡ p → bytes_eq n d ≡ q → is_plain m ≡ true → is_plain n ≡ true → is_plain c ≡ true → is_plain d ≡ true
    → prefix p m ++ (c ++ (46 ∷ x)) ≡ prefix q n ++ (d ++ (46 ∷ y)) → (m ≡ n) × (c ++ (46 ∷ x) ≡ d ++ (46 ∷ y))
same_front true true m n c d x y tp tq pm pn pc pd h =
    let k = cut-plain c d (46 ∷ x) (46 ∷ y) pc pd refl refl h in
    let a : m ≡ c = (bytes_eq-Decides m c).0 tp in
    let b : n ≡ d = (bytes_eq-Decides n d).0 tq in
    (a ∙ (k.0 ∙ sym b), h)
same_front true false m n c d x y tp tq pm pn pc pd h =
    let e : c ++ (46 ∷ x) ≡ n ++ (58 ∷ (d ++ (46 ∷ y))) = h ∙ append_assoc n (58 ∷ []) (d ++ (46 ∷ y)) in
    let k = cut-plain c n (46 ∷ x) (58 ∷ (d ++ (46 ∷ y))) pc pn refl refl e in
    differ (ap (begins (codes ".")) k.1)
same_front false true m n c d x y tp tq pm pn pc pd h =
    let e : m ++ (58 ∷ (c ++ (46 ∷ x))) ≡ d ++ (46 ∷ y) = sym (append_assoc m (58 ∷ []) (c ++ (46 ∷ x))) ∙ h in
    let k = cut-plain m d (58 ∷ (c ++ (46 ∷ x))) (46 ∷ y) pm pd refl refl e in
    differ (ap (begins (codes ":")) k.1)
same_front false false m n c d x y tp tq pm pn pc pd h =
    let e : m ++ (58 ∷ (c ++ (46 ∷ x))) ≡ n ++ (58 ∷ (d ++ (46 ∷ y))) = sym (append_assoc m (58 ∷ []) (c ++ (46 ∷ x))) ∙ (h ∙ append_assoc n (58 ∷ []) (d ++ (46 ∷ y))) in
    let k = cut-plain m n (58 ∷ (c ++ (46 ∷ x))) (58 ∷ (d ++ (46 ∷ y))) pm pn refl refl e in
    (k.0, tails _ _ _ _ k.1)

-- ---- keys

record Plain (k : Key) : Type 0 where
  context : not (is_empty k.context) ≡ true
  «module» : is_plain k.module ≡ true
  names : are_plain k.context ≡ true
  base : is_plain k.base ≡ true
  labels : are_plain_labels k.labels ≡ true
  marks : list_all is_plain_mark k.part.marks ≡ true
  thunk : has_thunk_last k.part.marks ≡ true

plain-of : (k : Key) → is_plain_key k ≡ true → Plain k
plain-of k e =
    let six = both-left _ _ e in
    let five = both-left _ _ six in
    let four = both-left _ _ five in
    let three = both-left _ _ four in
    let two = both-left _ _ three in
    record {
      context = both-left _ _ two;
      «module» = both-right _ _ two;
      names = both-right _ _ three;
      base = both-right _ _ four;
      labels = both-right _ _ five;
      marks = both-right _ _ six;
      thunk = both-right _ _ e;
    }

same_key : (a b : Key) → a.module ≡ b.module → a.context ≡ b.context → a.base ≡ b.base → a.labels ≡ b.labels → a.part.marks ≡ b.part.marks → a ≡ b
same_key a b m c n l p =
    ap (λ (x : Text). let k : Key = record a { «module» = x } in k) m
    ∙ (ap (λ (x : List Text). let k : Key = record a { «module» = b.module; context = x } in k) c
    ∙ (ap (λ (x : Text). let k : Key = record b { base = x; labels = a.labels; part = a.part } in k) n
    ∙ (ap (λ (x : Option (List Text)). let k : Key = record b { labels = x; part = a.part } in k) l
    ∙ ap (λ (x : List Mark). let k : Key = record b { part = record { marks = x } } in k) p)))

-- what stands behind the first name of the context
abbrev behind : Key → List Text → Text
behind k cs = context_text cs ++ (k.base ++ (labels_text k.labels ++ marks_text k.part.marks))

of_contexts : (a b : Key) (cs ds : List Text) → Plain a → Plain b → a.context ≡ cs → b.context ≡ ds → module_text a.module cs ++ behind a cs ≡ module_text b.module ds ++ behind b ds → a ≡ b
of_contexts a b [] ds pa pb ea eb h = absurd (let k = ap (λ t. not (is_empty t)) ea in let l = pa.context in cc)
of_contexts a b (c ∷ cs) [] pa pb ea eb h = absurd (let k = ap (λ t. not (is_empty t)) eb in let l = pb.context in cc)
of_contexts a b (c ∷ cs) (d ∷ ds) pa pb ea eb h =
    let pc : are_plain (c ∷ cs) ≡ true = sym (ap are_plain ea) ∙ pa.names in
    let pd : are_plain (d ∷ ds) ≡ true = sym (ap are_plain eb) ∙ pb.names in
    let x = behind a cs in
    let y = behind b ds in
    let whole : prefix (bytes_eq a.module c) a.module ++ (c ++ (46 ∷ x)) ≡ prefix (bytes_eq b.module d) b.module ++ (d ++ (46 ∷ y)) =
    ap (λ t. t ++ (c ++ (46 ∷ x))) (sym (prefix-of a.module c cs)) ∙ (ap (λ t. module_text a.module (c ∷ cs) ++ t) (sym (append_assoc c (46 ∷ context_text cs) _)) ∙ (h ∙ (ap (λ t. module_text b.module (d ∷ ds) ++ t) (append_assoc d (46 ∷ context_text ds) _) ∙ ap (λ t. t ++ (d ++ (46 ∷ y))) (prefix-of b.module d ds)))) in
    let front = same_front (bytes_eq a.module c) (bytes_eq b.module d) a.module b.module c d x y refl refl pa.module pb.module (both-left _ _ pc) (both-left _ _ pd) whole in
    let fa = follows-marks a.part.marks in
    let fb = follows-marks b.part.marks in
    let names = same_context (c ∷ cs) (d ∷ ds) a.base b.base a.labels b.labels (marks_text a.part.marks) (marks_text b.part.marks) pc pd pa.base pb.base fa fb (append_assoc c (46 ∷ context_text cs) _ ∙ (front.1 ∙ sym (append_assoc d (46 ∷ context_text ds) _))) in
    let labels = same_labels a.labels b.labels (marks_text a.part.marks) (marks_text b.part.marks) pa.labels pb.labels fa fb names.2 in
    let marks : a.part.marks ≡ b.part.marks = same_marks a.part.marks b.part.marks pa.marks pb.marks pa.thunk pb.thunk labels.1 in
    let m : a.module ≡ b.module = front.0 in
    let context : a.context ≡ b.context = ea ∙ (names.0 ∙ sym eb) in
    let base : a.base ≡ b.base = names.1 in
    let l : a.labels ≡ b.labels = labels.0 in
    same_key a b m context base l marks

pub different_symbols : DifferentSymbols
different_symbols a b pa pb h = of_contexts a b a.context b.context (plain-of a pa) (plain-of b pb) refl refl h
