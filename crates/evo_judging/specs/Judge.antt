-- A judgement: what a walk answers, what holds of its answer, and what is at fault. From one term all three are read.
use Rattle.std.specs.Prelude.{◌≡◌, List, [], ◌∷◌, map, Option, Some, None, Bool, true, false, Result, Ok, Err, ◌⊎◌}

-- ---- walks

abbrev pub bind : {F A B : Type 0} → Result A F → (A → Result B F) → Result B F
bind (Ok a) k = k a
bind (Err f) k = Err f

abbrev pub need : {F A : Type 0} → F → Option A → Result A F
need f (Some a) = Ok a
need f None = Err f

abbrev pub ensure : {F : Type 0} → F → Bool → Result (Unit {0}) F
ensure f true = Ok tt
ensure f false = Err f

abbrev pub seek : {F E A : Type 0} → (E → F) → Result A E → Result A F
seek at (Ok a) = Ok a
seek at (Err e) = Err (at e)

abbrev pub by_option : {A B : Type 0} → Option A → B → (A → B) → B
by_option None n s = n
by_option (Some a) n s = s a

-- all of them, or the first fault
abbrev pub gather : {F A : Type 0} → List (Result A F) → Result (List A) F
gather [] = Ok []
gather (r ∷ rs) = bind r (λ a. bind (gather rs) (λ as'. Ok (a ∷ as')))

-- ---- judgements

-- O answers what the walk asks and does not itself compute. I names the parts that are looked at: what is at fault in a part is at fault in the whole.
pub record Judge (I O F A : Type 0) : Type 1 where
  pub walk : O → Result A F
  pub holds : A → Type 0
  -- the faults that are not a part's
  pub own : F → Type 0
  pub part : I → Type 0

-- a fault of its own, or of a part; N has the faults of the parts
abbrev pub Fails : {I O F A : Type 0} → (I → F → Type 0) → Judge I O F A → F → Type 0
Fails {I} N J f = J.own f ⊎ ((i : I) × J.part i × N i f)

-- ---- what they are built from

abbrev pub gives : {I O F A : Type 0} → A → Judge I O F A
gives x = record { walk = λ o. Ok x; holds = λ a. x ≡ a; own = λ f. ⊥; part = λ i. ⊥ }

abbrev pub refuses : {I O F A : Type 0} → F → Judge I O F A
refuses f = record { walk = λ o. Err f; holds = λ a. ⊥; own = λ g. f ≡ g; part = λ i. ⊥ }

abbrev pub needs : {I O F A : Type 0} → F → Option A → Judge I O F A
needs f x = record { walk = λ o. need f x; holds = λ a. x ≡ Some a; own = λ g. (x ≡ None) × (f ≡ g); part = λ i. ⊥ }

abbrev pub ensures : {I O F : Type 0} → F → Bool → Judge I O F (Unit {0})
ensures f b = record { walk = λ o. ensure f b; holds = λ a. b ≡ true; own = λ g. (b ≡ false) × (f ≡ g); part = λ i. ⊥ }

abbrev pub seeks : {I O F E A : Type 0} → (E → F) → Result A E → Judge I O F A
seeks {E} at r = record { walk = λ o. seek at r; holds = λ a. r ≡ Ok a; own = λ g. (e : E) × (r ≡ Err e) × (at e ≡ g); part = λ i. ⊥ }

-- the one answer to a question
abbrev pub learns : {I O F A : Type 0} → (A → Type 0) → (O → A) → Judge I O F A
learns H ask = record { walk = λ o. Ok (ask o); holds = H; own = λ f. ⊥; part = λ i. ⊥ }

-- one behind the other: the second is looked at where the first holds
abbrev pub follows : {I O F A B : Type 0} → Judge I O F A → (A → Judge I O F B) → Judge I O F B
follows {A} J K = record {
  walk = λ o. bind (J.walk o) (λ a. (K a).walk o);
  holds = λ b. (a : A) × J.holds a × (K a).holds b;
  own = λ f. J.own f ⊎ ((a : A) × J.holds a × (K a).own f);
  part = λ i. J.part i ⊎ ((a : A) × J.holds a × (K a).part i);
}

-- by what is there
abbrev pub splits : {I O F A B : Type 0} → Option A → Judge I O F B → (A → Judge I O F B) → Judge I O F B
splits {A} x J K = record {
  walk = λ o. by_option x (J.walk o) (λ a. (K a).walk o);
  holds = λ b. ((x ≡ None) × J.holds b) ⊎ ((a : A) × (x ≡ Some a) × (K a).holds b);
  own = λ f. ((x ≡ None) × J.own f) ⊎ ((a : A) × (x ≡ Some a) × (K a).own f);
  part = λ i. ((x ≡ None) × J.part i) ⊎ ((a : A) × (x ≡ Some a) × (K a).part i);
}

-- ---- lists of parts, side by side: the faults of each stand, whatever the others are

abbrev pub EachOf : {X A : Type 0} → (X → A → Type 0) → List X → List A → Type 0
EachOf H [] [] = Unit {0}
EachOf H (x ∷ xs) (a ∷ as') = H x a × EachOf H xs as'
EachOf H _ _ = ⊥

abbrev pub SomeOf : {X : Type 0} → (X → Type 0) → List X → Type 0
SomeOf N [] = ⊥
SomeOf N (x ∷ xs) = N x ⊎ SomeOf N xs

abbrev pub each : {I O F X A : Type 0} → (X → Judge I O F A) → List X → Judge I O F (List A)
each K xs = record {
  walk = λ o. gather (map (λ x. (K x).walk o) xs);
  holds = λ as'. EachOf (λ x. (K x).holds) xs as';
  own = λ f. SomeOf (λ x. (K x).own f) xs;
  part = λ i. SomeOf (λ x. (K x).part i) xs;
}
