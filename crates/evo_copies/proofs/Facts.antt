-- What holds of the copies of a client.
use Rattle.std.proofs.Common.{◌≡◌, ℕ, zero, suc, ◌+◌, ◌<◌, ◌≤◌, Bool, true, false, ◌⊎◌, inl, inr, ⊎_elim, List, [], ◌∷◌, ◌++◌, length, Option, Some, None, refl, sym, ◌∙◌, ap, subst, arith, append_assoc, get_or}
use Rattle.std.specs.Prelude.{slice_get, if◌then◌else◌, IsSome, is_some, not, ◌&&◌}
use Rattle.std.specs.Option.{option_map}
use Rattle.std.specs.Str.{bytes_eq}
use Rattle.std.proofs.lemmas.Slice.Eq.{bytes_eq-Decides}
use Rattle.std.proofs.lemmas.List.{append-nil}
use Rattle.std.proofs.lemmas.Option.{slice_get_within}
use Rattle.evo_base.specs.Names.{position_of, AreDistinct, Inserts}
use Rattle.evo_base.proofs.Names.{position_of-append-Some, position_of-push-new, position_of-within, AreDistinct-push, AreDistinct-empty}
use Rattle.evo_base.proofs.Counting.{no_more}
use Rattle.evo_first_form.specs.declared.Declaration.{Declaration}
use Rattle.evo_first_form.specs.declared.Print.{Print}
use Rattle.evo_first_form.specs.declared.Term.{Term}
use Rattle.evo_first_form.specs.Interface.{declared_names}
use Rattle.evo_first_form.specs.Calls.{calls_of, calls_of_body}
use Rattle.evo_first_form.specs.Copies.{copied_body, is_copied}
use Rattle.evo_copies.specs.Reach.{with_call, reached, Spreads, ends, reads, AreCopies, AreInlinable, ReadsCopy}

abbrev Names : Type 0
Names = List (List ℕ)

some_of : (o : Option ℕ) → IsSome (option_map suc o) → IsSome o
some_of None h = absurd cc
some_of (Some i) h = refl

some_suc : (o : Option ℕ) → IsSome o → IsSome (option_map suc o)
some_suc None h = absurd cc
some_suc (Some i) h = refl

module _ (ds : List Declaration) where
  pub reached-append : (copies xs ys : Names) → reached ds copies (xs ++ ys) ≡ reached ds (reached ds copies xs) ys
  reached-append copies [] ys = refl
  reached-append copies (x ∷ xs) ys = reached-append (with_call ds copies x) xs ys

  -- inserting a function that clients copy is reading a call of it
  pub inserted : (old new : Names) (name : List ℕ) (added : Bool) → is_copied ds name ≡ true → Inserts old new name added → new ≡ with_call ds old name
  inserted old new name true copied h = rw (copied, h.0) h.1
  inserted old new name false copied h = by (position_of name old) refl h.0
    where
      by : (o : Option ℕ) → position_of name old ≡ o → IsSome o → new ≡ with_call ds old name
      by None e some = absurd cc
      by (Some i) e some = rw (copied, e) h.1

  -- a call reaches a function for the first time, or it does not
  with_call-cases : (P : Names → Type 0) (copies : Names) (name : List ℕ) → P copies → (is_copied ds name ≡ true → position_of name copies ≡ None → P (copies ++ name ∷ [])) → P (with_call ds copies name)
  with_call-cases P copies name same more = by (is_copied ds name) (position_of name copies) refl refl
    where
      by : (b : Bool) (o : Option ℕ) → is_copied ds name ≡ b → position_of name copies ≡ o → P (if b && not (is_some o) then copies ++ name ∷ [] else copies)
      by true None e f = more e f
      by true (Some i) e f = same
      by false o e f = same

  reached-keeps : (P : Names → Type 0) → ((copies : Names) (name : List ℕ) → P copies → P (with_call ds copies name)) → (copies names : Names) → P copies → P (reached ds copies names)
  reached-keeps P step copies [] p = p
  reached-keeps P step copies (n ∷ ns) p = reached-keeps P step (with_call ds copies n) ns (step copies n p)

  pub reached-distinct : (copies names : Names) → AreDistinct copies → AreDistinct (reached ds copies names)
  reached-distinct copies names = reached-keeps AreDistinct (λ old n d. with_call-cases AreDistinct old n d (λ e f. AreDistinct-push n old d f)) copies names

  some_body : (o : Option Term) → is_some o ≡ true → IsSome o
  some_body None e = absurd cc
  some_body (Some t) e = refl

  inlinable-push : (copies : Names) (name : List ℕ) → AreInlinable ds copies → IsSome (copied_body ds name) → AreInlinable ds (copies ++ name ∷ [])
  inlinable-push [] name h s = (s, tt)
  inlinable-push (c ∷ cs) name h s = (h.0, inlinable-push cs name h.1 s)

  pub reached-inlinable : (copies names : Names) → AreInlinable ds copies → AreInlinable ds (reached ds copies names)
  reached-inlinable copies names = reached-keeps (AreInlinable ds) (λ old n d. with_call-cases (AreInlinable ds) old n d (λ e f. inlinable-push old n d (some_body (copied_body ds n) e))) copies names

  inlinable-at : (copies : Names) (i : ℕ) (name : List ℕ) → AreInlinable ds copies → slice_get copies i ≡ Some name → IsSome (copied_body ds name)
  inlinable-at [] i name h e = absurd cc
  inlinable-at (c ∷ cs) zero name h e = let same : c ≡ name = cc in subst (λ (n : List ℕ). IsSome (copied_body ds n)) same h.0
  inlinable-at (c ∷ cs) (suc i) name h e = inlinable-at cs i name h.1 e

-- a function whose body clients may copy is declared
declared : (ds : List Declaration) (name : List ℕ) → IsSome (copied_body ds name) → IsSome (position_of name (declared_names ds))
declared [] name h = absurd cc
declared (d ∷ ds) name h = by (bytes_eq name d.name) h (declared ds name)
  where
    by : (b : Bool) → IsSome (if b then d.body else copied_body ds name) → (IsSome (copied_body ds name) → IsSome (position_of name (declared_names ds))) → IsSome (if b then Some 0 else option_map suc (position_of name (declared_names ds)))
    by true h rest = refl
    by false h rest = some_suc (position_of name (declared_names ds)) (rest h)

-- there are no more copies than declarations
pub few : (ds : List Declaration) (copies : Names) → AreDistinct copies → AreInlinable ds copies → length copies ≤ length (declared_names ds)
few ds copies distinct all = no_more copies (declared_names ds) distinct (λ i x e. declared ds x (inlinable-at ds copies i x all e))

pub behind_all : (xs : Names) (i : ℕ) → length xs ≤ i → slice_get xs i ≡ None
behind_all [] i h = refl
behind_all (x ∷ xs) zero h = absurd (omega arith)
behind_all (x ∷ xs) (suc i) h = behind_all xs i (omega arith)

none_some : (o : Option ℕ) → o ≡ None → IsSome o → ⊥
none_some None e h = absurd cc
none_some (Some i) e h = absurd cc

-- a name that is not declared has no body
pub no_body : (ds : List Declaration) (name : List ℕ) → position_of name (declared_names ds) ≡ None → copied_body ds name ≡ None
no_body ds name e = by (copied_body ds name) refl
  where
    by : (o : Option Term) → copied_body ds name ≡ o → o ≡ None
    by None f = refl
    by (Some t) f = absurd (none_some _ e (declared ds name (subst (λ (o : Option Term). IsSome o) (sym f) refl)))

-- the declaration at a name's place
pub at_place : (ds : List Declaration) (name : List ℕ) (i : ℕ) (d : Declaration) → position_of name (declared_names ds) ≡ Some i → d ≡ get_or ds i d → (copied_body ds name ≡ d.body) × (d.name ≡ name)
at_place [] name i d e is = absurd cc
at_place (x ∷ xs) name i d e is = by (bytes_eq name x.name) (position_of name (declared_names xs)) i refl refl e is (λ j f. at_place xs name j d f)
  where
    by : (b : Bool) (o : Option ℕ) (i : ℕ) → bytes_eq name x.name ≡ b → position_of name (declared_names xs) ≡ o → (if b then Some 0 else option_map suc o) ≡ Some i → d ≡ get_or (x ∷ xs) i d
        → ((j : ℕ) → position_of name (declared_names xs) ≡ Some j → d ≡ get_or xs j d → (copied_body xs name ≡ d.body) × (d.name ≡ name)) → ((if b then x.body else copied_body xs name) ≡ d.body) × (d.name ≡ name)
    by true o zero q p e is rest = (ap (λ (y : Declaration). y.body) (sym is), ap (λ (y : Declaration). y.name) is ∙ sym ((bytes_eq-Decides name x.name).0 q))
    by true o (suc i) q p e is rest = absurd cc
    by false None i q p e is rest = absurd cc
    by false (Some j) zero q p e is rest = absurd cc
    by false (Some j) (suc i) q p e is rest = let same : j ≡ i = cc in rest i (p ∙ ap Some same) is

pub declared-length : (ds : List Declaration) → length (declared_names ds) ≡ length ds
declared-length [] = refl
declared-length (d ∷ ds) = ap suc (declared-length ds)

pub within : (ds : List Declaration) (name : List ℕ) (i : ℕ) → position_of name (declared_names ds) ≡ Some i → i < length ds
within ds name i e = let p = position_of-within name (declared_names ds) i e in omega (arith, declared-length ds)

-- the copies that were read, among those that follow
prefix-get : (xs ys : Names) (i : ℕ) (x y : List ℕ) → slice_get xs i ≡ Some x → slice_get (xs ++ ys) i ≡ Some y → x ≡ y
prefix-get [] ys i x y e f = absurd cc
prefix-get (z ∷ xs) ys zero x y e f = let a : z ≡ x = cc in let b : z ≡ y = cc in sym a ∙ b
prefix-get (z ∷ xs) ys (suc i) x y e f = prefix-get xs ys i x y e f

get-at : (xs : Names) (i : ℕ) → i < length xs → (x : List ℕ) × (slice_get xs i ≡ Some x)
get-at [] i lt = absurd (omega arith)
get-at (x ∷ xs) zero lt = (x, refl)
get-at (x ∷ xs) (suc i) lt = get-at xs i (omega arith)

none-long : (xs : Names) (i : ℕ) → slice_get xs i ≡ None → length xs ≤ i
none-long [] i e = omega arith
none-long (x ∷ xs) zero e = absurd cc
none-long (x ∷ xs) (suc i) e = let h = none-long xs i e in omega arith

below_or_at : (i n : ℕ) → i < n + 1 → (i < n) ⊎ (i ≡ n)
below_or_at zero zero lt = inr refl
below_or_at zero (suc n) lt = inl (omega arith)
below_or_at (suc i) zero lt = absurd (omega arith)
below_or_at (suc i) (suc n) lt = ⊎_elim (λ (h : i < n). inl (omega arith)) (λ (e : i ≡ n). inr (ap suc e)) (below_or_at i n (omega arith))

module _ (ds : List Declaration) where
  -- those of these calls that clients copy are among the copies
  abbrev pub Covers : Names → Names → Type 0
  Covers copies [] = Unit {0}
  Covers copies (n ∷ ns) = (is_copied ds n ≡ true → IsSome (position_of n copies)) × Covers copies ns

  stays : (copies more : Names) (name : List ℕ) → IsSome (position_of name copies) → IsSome (position_of name (copies ++ more))
  stays copies more name h = by (position_of name copies) refl h
    where
      by : (o : Option ℕ) → position_of name copies ≡ o → IsSome o → IsSome (position_of name (copies ++ more))
      by None e h = absurd cc
      by (Some i) e h = rw (position_of-append-Some name copies more i e) refl

  with_call-front : (copies : Names) (name : List ℕ) → (more : Names) × (with_call ds copies name ≡ copies ++ more)
  with_call-front copies name = with_call-cases ds (λ (l : Names). (more : Names) × (l ≡ copies ++ more)) copies name ([], sym (append-nil copies)) (λ e f. (name ∷ [], refl))

  pub reached-front : (copies names : Names) → (more : Names) × (reached ds copies names ≡ copies ++ more)
  reached-front copies [] = ([], sym (append-nil copies))
  reached-front copies (n ∷ ns) =
      let a = with_call-front copies n in
      let b = reached-front (with_call ds copies n) ns in
      (a.0 ++ b.0, b.1 ∙ ap (λ (l : Names). l ++ b.0) a.1 ∙ append_assoc copies a.0 b.0)

  reached-stays : (copies names : Names) (name : List ℕ) → IsSome (position_of name copies) → IsSome (position_of name (reached ds copies names))
  reached-stays copies names name h = let p = reached-front copies names in rw p.1 (stays copies p.0 name h)

  -- a call of what clients copy is covered by what it reaches
  called : (copies : Names) (name : List ℕ) → is_copied ds name ≡ true → IsSome (position_of name (with_call ds copies name))
  called copies name copied = by (position_of name copies) refl
    where
      by : (o : Option ℕ) → position_of name copies ≡ o → IsSome (position_of name (with_call ds copies name))
      by None e = rw (copied, e) (rw (position_of-push-new name copies e) refl)
      by (Some i) e = rw (copied, e) (rw e refl)

  pub reached-covers : (copies names : Names) → Covers (reached ds copies names) names
  reached-covers copies [] = tt
  reached-covers copies (n ∷ ns) = (λ copied. reached-stays (with_call ds copies n) ns n (called copies n copied), reached-covers (with_call ds copies n) ns)

  Covers-stays : (copies all names : Names) → ((n : List ℕ) → IsSome (position_of n copies) → IsSome (position_of n all)) → Covers copies names → Covers all names
  Covers-stays copies all [] keep h = tt
  Covers-stays copies all (n ∷ ns) keep h = (λ copied. keep n (h.0 copied), Covers-stays copies all ns keep h.1)

  -- what the copy of this name calls
  abbrev calls_in : List ℕ → Names
  calls_in name = calls_of_body (copied_body ds name)

  spread-stays : (read : ℕ) (copies all : Names) → Spreads ds read copies all → (n : List ℕ) → IsSome (position_of n copies) → IsSome (position_of n all)
  spread-stays read copies all (ends e) n h = h
  spread-stays read copies all (reads {name = name} e more) n h = spread-stays (read + 1) (reached ds copies (calls_in name)) all more n (reached-stays copies (calls_in name) n h)

  pub spread-distinct : (read : ℕ) (copies all : Names) → Spreads ds read copies all → AreDistinct copies → AreDistinct all
  spread-distinct read copies all (ends e) d = d
  spread-distinct read copies all (reads {name = name} e more) d = spread-distinct (read + 1) (reached ds copies (calls_in name)) all more (reached-distinct ds copies (calls_in name) d)

  pub spread-inlinable : (read : ℕ) (copies all : Names) → Spreads ds read copies all → AreInlinable ds copies → AreInlinable ds all
  spread-inlinable read copies all (ends e) d = d
  spread-inlinable read copies all (reads {name = name} e more) d = spread-inlinable (read + 1) (reached ds copies (calls_in name)) all more (reached-inlinable ds copies (calls_in name) d)

  -- the calls of the copies that were read are covered
  abbrev ReadAre : ℕ → Names → Type 0
  ReadAre read copies = (i : ℕ) (name : List ℕ) → i < read → slice_get copies i ≡ Some name → Covers copies (calls_in name)

  one_more : (read : ℕ) (copies : Names) (name : List ℕ) → slice_get copies read ≡ Some name → ReadAre read copies → ReadAre (read + 1) (reached ds copies (calls_in name))
  one_more read copies name e before i n lt f =
      let p = reached-front copies (calls_in name) in
      let within : read < length copies = slice_get_within copies read name e in
      let here = get-at copies i (omega arith) in
      let same : here.0 ≡ n = prefix-get copies p.0 i here.0 n here.1 (rw p.1 at f) in
      ⊎_elim
      (λ (old : i < read). Covers-stays copies (reached ds copies (calls_in name)) (calls_in n) (λ m h. reached-stays copies (calls_in name) m h) (subst (λ (m : List ℕ). Covers copies (calls_in m)) same (before i here.0 old here.1)))
      (λ (now : i ≡ read).
      let is : name ≡ n = let q : Some here.0 ≡ Some name = sym here.1 ∙ ap (slice_get copies) now ∙ e in let r : here.0 ≡ name = cc in sym r ∙ same in
      subst (λ (m : List ℕ). Covers (reached ds copies (calls_in name)) (calls_in m)) is (reached-covers copies (calls_in name)))
      (below_or_at i read lt)

  spread-closed : (read : ℕ) (copies all : Names) → Spreads ds read copies all → ReadAre read copies → (i : ℕ) (name : List ℕ) → slice_get all i ≡ Some name → Covers all (calls_in name)
  spread-closed read copies all (ends e) before i name f =
      let long = none-long copies read e in
      let within = slice_get_within copies i name f in
      before i name (omega arith) f
  spread-closed read copies all (reads {name = n} e more) before i name f =
      spread-closed (read + 1) (reached ds copies (calls_in n)) all more (one_more read copies n e before) i name f

-- the copies of a client are distinct, each is one that clients copy, and all that is called and copied is among them
pub record CopyFacts (ds : List Declaration) (prints : List Print) (copies : Names) : Type 0 where
  pub distinct : AreDistinct copies
  pub inlinable : AreInlinable ds copies
  pub client : Covers ds copies (calls_of prints)
  pub closed : (i : ℕ) (name : List ℕ) → slice_get copies i ≡ Some name → Covers ds copies (calls_of_body (copied_body ds name))

pub facts_of : (ds : List Declaration) (prints : List Print) (copies : Names) → AreCopies ds prints copies → CopyFacts ds prints copies
facts_of ds prints copies spreads =
    let first = reached ds [] (calls_of prints) in
    record {
      distinct = spread-distinct ds 0 first copies spreads (reached-distinct ds [] (calls_of prints) AreDistinct-empty);
      inlinable = spread-inlinable ds 0 first copies spreads (reached-inlinable ds [] (calls_of prints) tt);
      client = Covers-stays ds first copies (calls_of prints) (spread-stays ds 0 first copies spreads) (reached-covers ds [] (calls_of prints));
      closed = spread-closed ds 0 first copies spreads (λ i name lt e. absurd (omega arith));
    }

-- the turns of reading
pub read_all : (ds : List Declaration) (old new : Names) (place : ℕ) → ReadsCopy ds old place new false → Spreads ds place old new
read_all ds old new place h = subst (λ (l : Names). Spreads ds place old l) (sym h.1) (ends h.0)

pub read_one : (ds : List Declaration) (old new all : Names) (place : ℕ) → ReadsCopy ds old place new true → Spreads ds (place + 1) new all → Spreads ds place old all
read_one ds old new all place (name, e, is) more = reads e (subst (λ (l : Names). Spreads ds (place + 1) l all) is more)

pub read_keeps : (ds : List Declaration) (old new : Names) (place : ℕ) → ReadsCopy ds old place new true → AreDistinct old → AreInlinable ds old → AreDistinct new × AreInlinable ds new
read_keeps ds old new place (name, e, is) d n = (subst AreDistinct (sym is) (reached-distinct ds old (calls_of_body (copied_body ds name)) d), subst (AreInlinable ds) (sym is) (reached-inlinable ds old (calls_of_body (copied_body ds name)) n))

pub read_enough : (ds : List Declaration) (copies : Names) (place : ℕ) → AreDistinct copies → AreInlinable ds copies → length ds ≤ place → Spreads ds place copies copies
read_enough ds copies place d n long =
    let h = few ds copies d n in
    ends (behind_all copies place (omega (arith, declared-length ds)))
