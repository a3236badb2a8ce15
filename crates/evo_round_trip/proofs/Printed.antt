-- Rules whose spellings are written: what each part of a grammar owes, and that each keeps it.
use Rattle.std.proofs.Common.{◌≡◌, ℕ, List, [], ◌∷◌, ◌++◌, Bool, true, false, not, ◌&&◌, ◌||◌, refl, sym, ◌∙◌, ap, subst, append_assoc}
use Rattle.evo_base.specs.declared.token.TokenKind.{TokenKind}
use Rattle.evo_base.specs.declared.token.TokenKind.TheVariants as kind
use Rattle.evo_lex.specs.Sides.{is_opening, is_separator}
use Rattle.evo_tree.specs.declared.terminal.Role.{Role}
use Rattle.evo_tree.specs.declared.terminal.Role.TheVariants as role
use Rattle.evo_tree.specs.Pieces.{Piece}
use Rattle.evo_round_trip.proofs.Written.{Written, joined, is_none, is_wordy, is_operator_kind, is_string_kind, is_mark, parts_from, keeps_role, gives_role, joins, is_unattached, leads, Sound}
use Rattle.evo_round_trip.proofs.Matching.{SameLookahead, Fits, AllFit, FromText}

abbrev pub Text : Type 0
Text = List ℕ

-- ---- how lists begin

-- the first of them, or `e` where there is none
abbrev pub begins : {X : Type 0} → Bool → (X → Bool) → List X → Bool
begins e p [] = e
begins e p (x ∷ xs) = p x

abbrev pub any : Piece → Bool
any t = true

pub any_begins : (us : List Piece) → begins true any us ≡ true
any_begins [] = refl
any_begins (u ∷ us) = refl

-- white space stands before it
abbrev pub is_apart : Written → Bool
is_apart w = not (is_none w.gap)

-- none does
abbrev pub is_flush : Written → Bool
is_flush w = is_none w.gap

-- it may stand behind any token
abbrev pub is_free : Written → Bool
is_free w = not (is_none w.gap) || (is_mark w.kind && is_unattached w.role)

-- ---- what is matched

-- the piece is the written token, on whatever line where it need not be firm
abbrev pub Fitted : Bool → Piece → Written → Type 0
Fitted true m w = Fits m w
Fitted false m w = SameLookahead m w

abbrev pub Matched : Bool → List Piece → List Written → Type 0
Matched firm [] [] = Unit {0}
Matched firm [] (w ∷ ws) = ⊥
Matched firm (m ∷ ms) [] = ⊥
Matched firm (m ∷ ms) (w ∷ ws) = Fitted firm m w × AllFit ms ws

pub loosely : (firm : Bool) (m : Piece) (w : Written) → Fits m w → Fitted firm m w
loosely true m w f = f
loosely false m w f = f.0

pub all_matched : (firm : Bool) (ms : List Piece) (ws : List Written) → AllFit ms ws → Matched firm ms ws
all_matched firm [] [] f = tt
all_matched firm [] (w ∷ ws) f = absurd f
all_matched firm (m ∷ ms) [] f = absurd f
all_matched firm (m ∷ ms) (w ∷ ws) f = (loosely firm m w f.0, f.1)

fit_parts : (ms : List Piece) (xs ys : List Written) → AllFit ms (xs ++ ys) → (ns : List Piece) × (ps : List Piece) × (ms ≡ ns ++ ps) × AllFit ns xs × AllFit ps ys
fit_parts ms [] ys f = ([], ms, refl, tt, f)
fit_parts [] (x ∷ xs) ys f = absurd f
fit_parts (m ∷ ms) (x ∷ xs) ys f = let (ns, ps, cut, left, right) = fit_parts ms xs ys f.1 in (m ∷ ns, ps, ap (λ z. m ∷ z) cut, (f.0, left), right)

pub matched_parts : (firm : Bool) (ms : List Piece) (xs ys : List Written) → Matched firm ms (xs ++ ys) →
    (ns : List Piece) × (ps : List Piece) × (ms ≡ ns ++ ps) × Matched firm ns xs × Matched firm ps ys
matched_parts firm ms [] ys f = ([], ms, refl, tt, f)
matched_parts firm [] (x ∷ xs) ys f = absurd f
matched_parts firm (m ∷ ms) (x ∷ xs) ys f = let (ns, ps, cut, left, right) = fit_parts ms xs ys f.1 in (m ∷ ns, ps, ap (λ z. m ∷ z) cut, (f.0, left), all_matched firm ps ys right)

-- behind a first part that is not empty all the rest stands as it is written
pub firm_parts : (firm : Bool) (p : Written → Bool) (ms : List Piece) (xs ys : List Written) → begins false p xs ≡ true → Matched firm ms (xs ++ ys) →
    (ns : List Piece) × (ps : List Piece) × (ms ≡ ns ++ ps) × Matched firm ns xs × Matched true ps ys
firm_parts firm p ms [] ys b f = absurd (cc)
firm_parts firm p [] (x ∷ xs) ys b f = absurd f
firm_parts firm p (m ∷ ms) (x ∷ xs) ys b f = let (ns, ps, cut, left, right) = fit_parts ms xs ys f.1 in (m ∷ ns, ps, ap (λ z. m ∷ z) cut, (f.0, left), all_matched true ps ys right)

-- ---- parts of genuine pieces

pub genuine_left : (vs ws : List Piece) → FromText (vs ++ ws) → FromText vs
genuine_left [] ws g = tt
genuine_left (v ∷ []) ws g = (g.0, (tt, tt), tt)
genuine_left (v ∷ u ∷ vs) ws g = (g.0, g.1, genuine_left (u ∷ vs) ws g.2)

pub genuine_right : (vs ws : List Piece) → FromText (vs ++ ws) → FromText ws
genuine_right [] ws g = g
genuine_right (v ∷ vs) ws g = genuine_right vs ws g.2

pub begins_left : (g : Piece → Bool) (vs ws : List Piece) → begins true g (vs ++ ws) ≡ true → begins true g vs ≡ true
begins_left g [] ws b = refl
begins_left g (v ∷ vs) ws b = b

-- ---- parts of written tokens

pub joined_append : (xs ys : List Written) → joined (xs ++ ys) ≡ joined xs ++ joined ys
joined_append [] ys = refl
joined_append (x ∷ xs) ys =
    ap (λ z. x.gap ++ (x.text ++ z)) (joined_append xs ys) ∙ ap (λ z. x.gap ++ z) (sym (append_assoc x.text (joined xs) (joined ys))) ∙ sym (append_assoc x.gap (x.text ++ joined xs) (joined ys))

parts_mark : (k k' : TokenKind) → is_mark k' ≡ true → parts_from k k' ≡ true
parts_mark k k' m = go (is_wordy k') (is_operator_kind k') (is_string_kind k') refl refl refl
  where
    go : (a b c : Bool) → is_wordy k' ≡ a → is_operator_kind k' ≡ b → is_string_kind k' ≡ c → parts_from k k' ≡ true
    go true b c p q r = absurd (cc)
    go false true c p q r = absurd (cc)
    go false false true p q r = absurd (cc)
    go false false false p q r = by k
      where
        word : not (is_wordy k') ≡ true
        word = ap not p

        by : (h : TokenKind) → parts_from h k' ≡ true
        by kind.Identifier = word
        by kind.Underscore = word
        by kind.Keyword = word
        by kind.Integer = word
        by kind.Operator = ap not q
        by kind.String = ap not r
        by _ = refl

-- a token that is no operator with a role may stand before what may stand behind any
joins_free : (v w : Written) → is_unattached v.role ≡ true → is_free w ≡ true → joins v w ≡ true
joins_free v w u f = go (is_none w.gap) refl w.role refl
  where
    both_false : (b : Bool) → (b && false) ≡ true → ⊥
    both_false true h = cc
    both_false false h = cc

    alone : (r : Role) → is_unattached r ≡ true → keeps_role r v.text w ≡ true
    alone role.Unattached h = refl
    alone role.Infix h = absurd (cc)
    alone role.Prefix h = absurd (cc)
    alone role.Negative h = absurd (cc)

    kept : keeps_role v.role v.text w ≡ true
    kept = alone v.role u

    given : (b : Bool) → is_none w.gap ≡ b → (r : Role) → (not b || (is_mark w.kind && is_unattached r)) ≡ true → gives_role v.kind w r ≡ true
    given b n role.Unattached h = refl
    given false n role.Infix h = ap not n
    given false n role.Prefix h = ap (λ z. not z || (is_opening v.kind || is_separator v.kind)) n
    given false n role.Negative h = ap (λ z. not z || (is_opening v.kind || is_separator v.kind)) n
    given true n role.Infix h = absurd (both_false (is_mark w.kind) h)
    given true n role.Prefix h = absurd (both_false (is_mark w.kind) h)
    given true n role.Negative h = absurd (both_false (is_mark w.kind) h)

    parted : (b : Bool) → is_none w.gap ≡ b → (r : Role) → (not b || (is_mark w.kind && is_unattached r)) ≡ true → (not (is_none w.gap) || parts_from v.kind w.kind) ≡ true
    parted false n r h = ap (λ z. not z || parts_from v.kind w.kind) n
    parted true n r h = go' (is_mark w.kind) refl
      where
        go' : (b : Bool) → is_mark w.kind ≡ b → (not (is_none w.gap) || parts_from v.kind w.kind) ≡ true
        go' true m = ap (λ z. not z || parts_from v.kind w.kind) n ∙ parts_mark v.kind w.kind m
        go' false m = let bad : (false && is_unattached r) ≡ true = subst (λ z. (z && is_unattached r) ≡ true) m h in absurd (cc)

    three : (a b c : Bool) → a ≡ true → b ≡ true → c ≡ true → (a && (b && c)) ≡ true
    three true true true p q r = refl
    three true true false p q r = absurd (cc)
    three true false c p q r = absurd (cc)
    three false b c p q r = absurd (cc)

    go : (b : Bool) → is_none w.gap ≡ b → (r : Role) → w.role ≡ r → joins v w ≡ true
    go b n r e =
        let h : (not b || (is_mark w.kind && is_unattached r)) ≡ true = subst (λ z. (not b || (is_mark w.kind && is_unattached z)) ≡ true) e (subst (λ z. (not z || (is_mark w.kind && is_unattached w.role)) ≡ true) n f) in
        three _ _ _ (parted b n r h) kept (subst (λ z. gives_role v.kind w z ≡ true) (sym e) (given b n r h))

pub leads_free : (e : Bool) (v : Written) (ws : List Written) → is_unattached v.role ≡ true → begins e is_free ws ≡ true → leads v ws ≡ true
leads_free e v [] u f = u
leads_free e v (w ∷ ws) u f = joins_free v w u f

-- what leads to nothing has no role
joins_last : (xs : List Written) → Sound xs → (ys : List Written) → Sound ys → begins true is_free ys ≡ true → Sound (xs ++ ys)
joins_last [] s ys r f = r
joins_last (x ∷ []) s ys r f = (s.0, leads_free true x ys s.1 f, r)
joins_last (x ∷ y ∷ xs) s ys r f = (s.0, s.1, joins_last (y ∷ xs) s.2 ys r f)

pub sound_append : (xs ys : List Written) → Sound xs → Sound ys → begins true is_free ys ≡ true → Sound (xs ++ ys)
sound_append xs ys s r f = joins_last xs s ys r f

pub begins_within : {X : Type 0} (e e' : Bool) (p q : X → Bool) (xs : List X) → (e ≡ true → e' ≡ true) → ((x : X) → p x ≡ true → q x ≡ true) → begins e p xs ≡ true → begins e' q xs ≡ true
begins_within e e' p q [] h k b = h b
begins_within e e' p q (x ∷ xs) h k b = k x b

pub begins_append : {X : Type 0} (e : Bool) (p : X → Bool) (xs ys : List X) → begins false p xs ≡ true → begins e p (xs ++ ys) ≡ true
begins_append e p [] ys b = absurd (cc)
begins_append e p (x ∷ xs) ys b = b

pub begins_after : {X : Type 0} (e : Bool) (p : X → Bool) (xs ys : List X) → begins true p xs ≡ true → begins e p ys ≡ true → begins e p (xs ++ ys) ≡ true
begins_after e p [] ys b c = c
begins_after e p (x ∷ xs) ys b c = b
