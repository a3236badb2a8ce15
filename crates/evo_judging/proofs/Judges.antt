-- Judgements are right that are built from right ones, each part once.
use Rattle.std.proofs.Common.{◌≡◌, List, [], ◌∷◌, Option, Some, None, Bool, true, false, Result, Ok, Err, inl, inr, refl, sym, ap, subst, ◌∙◌}
use Rattle.evo_judging.specs.Judge.{bind, Judge, Fails, gives, refuses, needs, ensures, seeks, learns, follows, splits, each}
use Rattle.evo_judging.specs.Right.{Judged, Right, Exactly}

module _ {I O F : Type 0} (N : I → F → Type 0) (E : O → Type 0) where
  -- ---- leaves

  pub gives_right : {A : Type 0} (x : A) → Right N E (gives {I = I} {O = O} {F = F} x)
  gives_right {A} x = record { sound = λ o e. refl; one = λ a b p q. sym p ∙ q; excludes = λ f a n e. never f n }
    where
      never : (f : F) → Fails N (gives {I = I} {O = O} {F = F} x) f → ⊥
      never f (inl n) = n
      never f (inr n) = n.1

  pub refuses_right : {A : Type 0} (f : F) → Right N E (refuses {I = I} {O = O} {A = A} f)
  refuses_right f = record { sound = λ o e. inl refl; one = λ a b p q. absurd p; excludes = λ g a n h. h }

  pub needs_right : {A : Type 0} (f : F) (x : Option A) → Right N E (needs {I = I} {O = O} f x)
  needs_right {A} f (Some x) = record { sound = λ o e. refl; one = λ a b p q. cc (p, q); excludes = λ g a n h. never g n }
    where
      never : (g : F) → Fails N (needs {I = I} {O = O} f (Some x)) g → ⊥
      never g (inl n) = cc (n.0)
      never g (inr n) = n.1
  needs_right f None = record { sound = λ o e. inl (refl, refl); one = λ a b p q. absurd (cc p); excludes = λ g a n h. cc h }

  pub ensures_right : (f : F) (b : Bool) → Right N E (ensures {I = I} {O = O} f b)
  ensures_right f true = record { sound = λ o e. refl; one = λ a b p q. refl; excludes = λ g a n h. never g n }
    where
      never : (g : F) → Fails N (ensures {I = I} {O = O} f true) g → ⊥
      never g (inl n) = cc (n.0)
      never g (inr n) = n.1
  ensures_right f false = record { sound = λ o e. inl (refl, refl); one = λ a b p q. absurd (cc p); excludes = λ g a n h. cc h }

  pub seeks_right : {X A : Type 0} (at : X → F) (r : Result A X) → Right N E (seeks {I = I} {O = O} at r)
  seeks_right {X} {A} at (Ok x) = record { sound = λ o e. refl; one = λ a b p q. cc (p, q); excludes = λ g a n h. never g n }
    where
      never : (g : F) → Fails N (seeks {I = I} {O = O} {A = A} at (Ok x)) g → ⊥
      never g (inl n) = cc (n.1)
      never g (inr n) = n.1
  seeks_right at (Err x) = record { sound = λ o e. inl (x, refl, refl); one = λ a b p q. absurd (cc p); excludes = λ g a n h. cc h }

  -- a question that has one answer, and is answered
  pub learns_right : {A : Type 0} (H : A → Type 0) (ask : O → A) → ((a b : A) → H a → H b → a ≡ b) → ((o : O) → E o → H (ask o)) → Right N E (learns {I = I} {F = F} H ask)
  learns_right {A} H ask one answers = record { sound = answers; one = one; excludes = λ f a n h. never f n }
    where
      never : (f : F) → Fails N (learns {I = I} {F = F} H ask) f → ⊥
      never f (inl n) = n
      never f (inr n) = n.1

  -- ---- one behind the other

  follows_fails : {A B : Type 0} (J : Judge I O F A) (K : A → Judge I O F B) (f : F) → Fails N J f → Fails N (follows J K) f
  follows_fails J K f (inl n) = inl (inl n)
  follows_fails J K f (inr n) = inr (n.0, inl n.1, n.2)

  then_fails : {A B : Type 0} (J : Judge I O F A) (K : A → Judge I O F B) (f : F) (a : A) → J.holds a → Fails N (K a) f → Fails N (follows J K) f
  then_fails J K f a h (inl n) = inl (inr (a, h, n))
  then_fails J K f a h (inr n) = inr (n.0, inr (a, h, n.1), n.2)

  -- what answers the second answers the whole
  pub then_judged : {A B : Type 0} (J : Judge I O F A) (K : A → Judge I O F B) (a : A) → J.holds a → (r : Result B F) → Judged N (K a) r → Judged N (follows J K) r
  then_judged J K a h (Ok b) g = (a, h, g)
  then_judged J K a h (Err f) g = then_fails J K f a h g

  pub follows_judged : {A B : Type 0} (J : Judge I O F A) (K : A → Judge I O F B) (r : Result A F) (s : A → Result B F) → Judged N J r → ((a : A) → J.holds a → Judged N (K a) (s a)) → Judged N (follows J K) (bind r s)
  follows_judged J K (Err f) s h k = follows_fails J K f h
  follows_judged J K (Ok a) s h k = then_judged J K a h (s a) (k a h)

  pub follows_right : {A B : Type 0} {J : Judge I O F A} {K : A → Judge I O F B} → Right N E J → ((a : A) → J.holds a → Right N E (K a)) → Right N E (follows J K)
  follows_right {A} {B} {J} {K} r k = record {
    sound = λ o e. follows_judged J K (J.walk o) (λ a. (K a).walk o) (r.sound o e) (λ a h. (k a h).sound o e);
    one = λ a b p q. (k q.0 q.1).one a b (subst (λ x. (K x).holds a) (r.one p.0 q.0 p.1 q.1) p.2) q.2;
    excludes = excluded;
  }
    where
      excluded : (f : F) (b : B) → Fails N (follows J K) f → (follows J K).holds b → ⊥
      excluded f b (inl (inl n)) h = r.excludes f h.0 (inl n) h.1
      excluded f b (inl (inr n)) h = (k h.0 h.1).excludes f b (inl (subst (λ a. (K a).own f) (r.one n.0 h.0 n.1 h.1) n.2)) h.2
      excluded f b (inr (i, inl n, m)) h = r.excludes f h.0 (inr (i, n, m)) h.1
      excluded f b (inr (i, inr n, m)) h = (k h.0 h.1).excludes f b (inr (i, subst (λ a. (K a).part i) (r.one n.0 h.0 n.1 h.1) n.2, m)) h.2

  -- ---- by what is there

  pub splits_right : {A B : Type 0} (x : Option A) {J : Judge I O F B} {K : A → Judge I O F B} → Right N E J → ((a : A) → Right N E (K a)) → Right N E (splits x J K)
  splits_right {A} {B} None {J} {K} r k = record {
    sound = λ o e. go (J.walk o) (r.sound o e);
    one = same;
    excludes = λ f b n h. excluded f b n h;
  }
    where
      put : (f : F) → Fails N J f → Fails N (splits None J K) f
      put f (inl n) = inl (inl (refl, n))
      put f (inr n) = inr (n.0, inl (refl, n.1), n.2)

      go : (s : Result B F) → Judged N J s → Judged N (splits None J K) s
      go (Ok b) g = inl (refl, g)
      go (Err f) g = put f g

      same : (a b : B) → (splits None J K).holds a → (splits None J K).holds b → a ≡ b
      same a b (inl h) (inl g) = r.one a b h.1 g.1
      same a b (inr h) g = absurd (cc (h.1))
      same a b h (inr g) = absurd (cc (g.1))

      back : (f : F) → Fails N (splits None J K) f → Fails N J f
      back f (inl (inl n)) = inl n.1
      back f (inl (inr n)) = absurd (cc (n.1))
      back f (inr (i, inl n, m)) = inr (i, n.1, m)
      back f (inr (i, inr n, m)) = absurd (cc (n.1))

      excluded : (f : F) (b : B) → Fails N (splits None J K) f → (splits None J K).holds b → ⊥
      excluded f b n (inl h) = r.excludes f b (back f n) h.1
      excluded f b n (inr h) = cc (h.1)
  splits_right {A} {B} (Some x) {J} {K} r k = record {
    sound = λ o e. go ((K x).walk o) ((k x).sound o e);
    one = same;
    excludes = λ f b n h. excluded f b n h;
  }
    where
      put : (f : F) → Fails N (K x) f → Fails N (splits (Some x) J K) f
      put f (inl n) = inl (inr (x, refl, n))
      put f (inr n) = inr (n.0, inr (x, refl, n.1), n.2)

      go : (s : Result B F) → Judged N (K x) s → Judged N (splits (Some x) J K) s
      go (Ok b) g = inr (x, refl, g)
      go (Err f) g = put f g

      is_x : {a : A} → Some x ≡ Some a → a ≡ x
      is_x e = cc e

      held : (b : B) → (splits (Some x) J K).holds b → (K x).holds b
      held b (inl h) = absurd (cc (h.0))
      held b (inr h) = subst (λ a. (K a).holds b) (is_x h.1) h.2

      same : (a b : B) → (splits (Some x) J K).holds a → (splits (Some x) J K).holds b → a ≡ b
      same a b h g = (k x).one a b (held a h) (held b g)

      back : (f : F) → Fails N (splits (Some x) J K) f → Fails N (K x) f
      back f (inl (inl n)) = absurd (cc (n.0))
      back f (inl (inr n)) = inl (subst (λ a. (K a).own f) (is_x n.1) n.2)
      back f (inr (i, inl n, m)) = absurd (cc (n.0))
      back f (inr (i, inr n, m)) = inr (i, subst (λ a. (K a).part i) (is_x n.1) n.2, m)

      excluded : (f : F) (b : B) → Fails N (splits (Some x) J K) f → (splits (Some x) J K).holds b → ⊥
      excluded f b n h = (k x).excludes f b (back f n) (held b h)

  -- ---- a list of parts

  pub here_fails : {X A : Type 0} (K : X → Judge I O F A) (x : X) (xs : List X) (f : F) → Fails N (K x) f → Fails N (each K (x ∷ xs)) f
  here_fails K x xs f (inl n) = inl (inl n)
  here_fails K x xs f (inr n) = inr (n.0, inl n.1, n.2)

  pub later_fails : {X A : Type 0} (K : X → Judge I O F A) (x : X) (xs : List X) (f : F) → Fails N (each K xs) f → Fails N (each K (x ∷ xs)) f
  later_fails K x xs f (inl n) = inl (inr n)
  later_fails K x xs f (inr n) = inr (n.0, inr n.1, n.2)

  each_judged : {X A : Type 0} (K : X → Judge I O F A) (x : X) (xs : List X) (r : Result A F) (s : Result (List A) F) → Judged N (K x) r → Judged N (each K xs) s → Judged N (each K (x ∷ xs)) (bind r (λ a. bind s (λ as'. Ok (a ∷ as'))))
  each_judged K x xs (Err f) s h g = here_fails K x xs f h
  each_judged K x xs (Ok a) (Err f) h g = later_fails K x xs f g
  each_judged K x xs (Ok a) (Ok as') h g = (h, g)

  abbrev pub AllOf : {X : Type 0} → (X → Type 0) → List X → Type 0
  AllOf P [] = Unit {0}
  AllOf P (x ∷ xs) = P x × AllOf P xs

  each_one : {X A : Type 0} (K : X → Judge I O F A) (xs : List X) → AllOf (λ x. Right N E (K x)) xs → (as' bs : List A) → (each K xs).holds as' → (each K xs).holds bs → as' ≡ bs
  each_one K [] r [] [] h g = refl
  each_one K [] r (a ∷ as') bs h g = absurd h
  each_one K [] r [] (b ∷ bs) h g = absurd g
  each_one K (x ∷ xs) r [] bs h g = absurd h
  each_one K (x ∷ xs) r (a ∷ as') [] h g = absurd g
  each_one K (x ∷ xs) r (a ∷ as') (b ∷ bs) h g = ap (λ c. c ∷ as') (r.0.one a b h.0 g.0) ∙ ap (λ cs. b ∷ cs) (each_one K xs r.1 as' bs h.1 g.1)

  each_excludes : {X A : Type 0} (K : X → Judge I O F A) (xs : List X) → AllOf (λ x. Right N E (K x)) xs → (f : F) (as' : List A) → Fails N (each K xs) f → (each K xs).holds as' → ⊥
  each_excludes K [] r f as' (inl n) h = n
  each_excludes K [] r f as' (inr n) h = n.1
  each_excludes K (x ∷ xs) r f [] n h = h
  each_excludes K (x ∷ xs) r f (a ∷ as') (inl (inl n)) h = r.0.excludes f a (inl n) h.0
  each_excludes K (x ∷ xs) r f (a ∷ as') (inl (inr n)) h = each_excludes K xs r.1 f as' (inl n) h.1
  each_excludes K (x ∷ xs) r f (a ∷ as') (inr (i, inl n, m)) h = r.0.excludes f a (inr (i, n, m)) h.0
  each_excludes K (x ∷ xs) r f (a ∷ as') (inr (i, inr n, m)) h = each_excludes K xs r.1 f as' (inr (i, n, m)) h.1

  pub each_right : {X A : Type 0} (K : X → Judge I O F A) (xs : List X) → AllOf (λ x. Right N E (K x)) xs → Right N E (each K xs)
  each_right K [] r = record { sound = λ o e. tt; one = each_one K [] r; excludes = each_excludes K [] r }
  each_right K (x ∷ xs) r = record {
    sound = λ o e. each_judged K x xs ((K x).walk o) ((each K xs).walk o) (r.0.sound o e) ((each_right K xs r.1).sound o e);
    one = each_one K (x ∷ xs) r;
    excludes = each_excludes K (x ∷ xs) r;
  }

  -- ---- what follows for any answer

  -- what holds is what the walk answers
  pub complete : {A : Type 0} {J : Judge I O F A} → Right N E J → (o : O) → E o → (a : A) → J.holds a → J.walk o ≡ Ok a
  complete {A} {J} r o e a h = go (J.walk o) (r.sound o e)
    where
      go : (s : Result A F) → Judged N J s → s ≡ Ok a
      go (Ok b) g = ap Ok (r.one b a g h)
      go (Err f) g = absurd (r.excludes f a g h)

  -- an answer is the only one
  pub exactly : {A : Type 0} {J : Judge I O F A} → Right N E J → (s : Result A F) → Judged N J s → Exactly J.holds (Fails N J) s
  exactly r (Ok a) h = (h, λ b g. r.one a b h g, λ f n. r.excludes f a n h)
  exactly r (Err f) n = (n, λ a h. r.excludes f a n h)
