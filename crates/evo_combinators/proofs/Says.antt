-- What the reader's outcomes say of the rule alone.
use Rattle.std.proofs.Common.{◌≡◌, ℕ, suc, ◌+◌, ◌-◌, ◌<◌, ◌≤◌, Bool, true, List, [], ◌∷◌, ◌++◌, length, drop, Option, Some, Ok, Err, refl, sym, ◌∙◌, ap, subst, arith, inl, inr, ◌⊎◌, length-append, length-drop, append-nil}
use Rattle.std.specs.Prelude.{slice_range}
use Rattle.std.proofs.Math.Seq.{drop-append_seam}
use Rattle.std.proofs.lemmas.List.{drop-drop}
use Rattle.evo_combinators.specs.declared.Fault.TheVariants.{Grammar, Deep}
use Rattle.evo_combinators.specs.Reader.{Outcome, Reader}
use Rattle.evo_combinators.specs.Nesting.{left_of}
use Rattle.evo_combinators.specs.Rule.{IsViablePrefix}
use Rattle.evo_combinators.specs.Laws.{first, NoneGoes, Ends, GrammarOf}
use Rattle.evo_combinators.specs.Contract.{IsReadTo, IsRefusedAt, IsDeepAt, IsShallow, IsRefusedIn}
use Rattle.evo_combinators.proofs.Faults.{ok_says, grammar_says, deep_says}
use Rattle.evo_combinators.proofs.Nesting.{Nest}
use Rattle.evo_combinators.proofs.Ranges.{slice_end, left_within, slice_front, slice_next, some_left, drop_first, first_within, range_behind, range_next}

same_parts : {A : Type 0} (us vs : List A) (x y : A) (xs ys : List A) → us ++ x ∷ xs ≡ vs ++ y ∷ ys → length xs ≡ length ys → x ≡ y
same_parts [] [] x y xs ys e l = cc
same_parts [] (v ∷ vs) x y xs ys e l = absurd (omega (arith, ap length e, length-append vs (y ∷ ys)))
same_parts (u ∷ us) [] x y xs ys e l = absurd (omega (arith, ap length e, length-append us (x ∷ xs)))
same_parts (u ∷ us) (v ∷ vs) x y xs ys e l = let rest : us ++ x ∷ xs ≡ vs ++ y ∷ ys = cc in same_parts us vs x y xs ys rest l

module _ {T A : Type 0} (Stop : Option T → Type 0) (Q : Type 0) (opening : T → Bool) (S : ℕ → List T → A → Type 0) (p : ℕ → Reader T A) (gram : GrammarOf Stop S p)
    (d : ℕ) (nest : (n : ℕ) → Nest n Q opening (S d) (p d)) (ps : List T) (at : ℕ) (le : at ≤ length ps) where
  pub read_left : (x : A) (rest : List T) → p d (drop at ps) ≡ Ok (x, rest) → length rest ≤ length ps
  read_left x rest is = let (us, cut, s, ends) = ok_says Stop S p gram d (drop at ps) rest x is in left_within ps us rest at cut le

  pub found : (x : A) (rest : List T) → p d (drop at ps) ≡ Ok (x, rest) → IsReadTo S d ps at x (length ps - length rest)
  found x rest is =
      let (us, cut, s, ends) = ok_says Stop S p gram d (drop at ps) rest x is in record {
        from = omega (arith, slice_end ps us rest at cut le);
        within = omega arith;
        spells = subst (λ us. S d us x) (sym (slice_front ps us rest at cut le)) s;
        ends = λ less. let (g, first_is) = some_left ps us rest at cut le less in subst (NoneGoes S) (sym (slice_next ps us rest at cut le g first_is)) (ends g first_is);
      }

  -- the opening tokens before the place where reading stopped
  shallow : (o : Outcome T A) (left : ℕ) → p d (drop at ps) ≡ o → left_of o ≡ left → IsShallow opening S d ps at (length ps - left)
  shallow o left is stops i t from less there opens =
      let cut : drop at ps ≡ slice_range ps at i ++ t ∷ drop (suc i) ps = range_behind ps at i from ∙ ap (λ r. slice_range ps at i ++ r) (drop_first ps i t there) in
      let size : left_of (p d (slice_range ps at i ++ t ∷ drop (suc i) ps)) ≡ left = ap (λ ts. left_of (p d ts)) (sym cut) ∙ ap left_of is ∙ stops in
      let n = length (slice_range ps at i ++ t ∷ drop (suc i) ps) in
      let (held, goes) = (nest n).keeps (slice_range ps at i) t (drop (suc i) ps) (omega arith) opens (omega (arith, size, length-drop (suc i) ps, first_within ps i t there)) in
      subst (IsViablePrefix (S d)) (sym (range_next ps at i t from there)) goes

  goes_from : (us rest : List T) → drop at ps ≡ us ++ rest → (us ≡ []) ⊎ IsViablePrefix (S (suc d)) us → (length ps - length rest ≡ at) ⊎ IsViablePrefix (S (suc d)) (slice_range ps at (length ps - length rest))
  goes_from us rest cut (inl none) = inl (omega (arith, slice_end ps us rest at cut le, ap length none))
  goes_from us rest cut (inr goes) = inr (subst (IsViablePrefix (S (suc d))) (sym (slice_front ps us rest at cut le)) goes)

  ends_from : (us rest : List T) → drop at ps ≡ us ++ rest → Ends S us rest → length ps - length rest < length ps → NoneGoes S (slice_range ps at (length ps - length rest + 1))
  ends_from us rest cut ends less = let (g, first_is) = some_left ps us rest at cut le less in subst (NoneGoes S) (sym (slice_next ps us rest at cut le g first_is)) (ends g first_is)

  pub refused : (left : ℕ) → p d (drop at ps) ≡ Err (Grammar left) → IsRefusedAt opening S d ps at (length ps - left)
  refused left is =
      let (us, rest, cut, count, goes, ends, none) = grammar_says Stop S p gram d (drop at ps) left is in
      subst (IsRefusedAt opening S d ps at) (ap (λ n. length ps - n) (sym count)) (record {
        from = omega (arith, slice_end ps us rest at cut le);
        within = omega arith;
        goes = goes_from us rest cut goes;
        ends = ends_from us rest cut ends;
        none = λ m x s. none m x (subst (λ us. S m us x) (slice_front ps us rest at cut le) s);
        shallow = subst (λ n. IsShallow opening S d ps at (length ps - n)) count (shallow (Err (Grammar left)) left is refl);
      })

  pub deep : (left : ℕ) → p d (drop at ps) ≡ Err (Deep left) → IsDeepAt opening S d ps at (length ps - left)
  deep left is =
      let (us, t, rest, cut, count, goes, opens, deep) = deep_says Stop S p gram d (drop at ps) left is in
      let (vs, t', rest', cut', count', opens') = (nest (length (drop at ps))).deep (drop at ps) left (omega arith) is in
      let same : t ≡ t' = same_parts us vs t t' rest rest' (sym cut ∙ cut') (omega arith) in
      let next = slice_next ps us (t ∷ rest) at cut le t refl in
      subst (IsDeepAt opening S d ps at) (ap (λ n. length ps - n) (sym count)) (record {
        from = omega (arith, slice_end ps us (t ∷ rest) at cut le);
        token = t;
        is = there us t rest cut;
        opens = subst (λ u. opening u ≡ true) (sym same) opens';
        goes = subst (IsViablePrefix (S (suc d))) (sym next) opens;
        deep = λ goes. deep (subst (IsViablePrefix (S d)) next goes);
        shallow = subst (λ n. IsShallow opening S d ps at (length ps - n)) count (shallow (Err (Deep left)) left is refl);
      })
    where
      there : (us : List T) (t : T) (rest : List T) → drop at ps ≡ us ++ t ∷ rest → first (drop (length ps - length (t ∷ rest)) ps) ≡ Some t
      there us t rest cut =
          let end = slice_end ps us (t ∷ rest) at cut le in
          ap (λ n. first (drop n ps)) end ∙ ap first (sym (drop-drop (length us) at ps) ∙ ap (drop (length us)) cut ∙ drop-append_seam us (t ∷ rest))

-- ---- all tokens

module _ {T A : Type 0} (Stop : Option T → Type 0) (Q : Type 0) (opening : T → Bool) (S : ℕ → List T → A → Type 0) (p : ℕ → Reader T A) (gram : GrammarOf Stop S p)
    (d : ℕ) (nest : (n : ℕ) → Nest n Q opening (S d) (p d)) (ps : List T) where
  pub whole : (x : A) → p d ps ≡ Ok (x, []) → S d ps x
  whole x is = let (us, cut, s, ends) = ok_says Stop S p gram d ps [] x is in subst (λ us. S d us x) (sym (cut ∙ append-nil us)) s

  -- something is read, but not all tokens
  pub left_over : (x : A) (t : T) (rest : List T) → p d ps ≡ Ok (x, t ∷ rest) → IsRefusedIn opening S d ps (length ps - length (t ∷ rest))
  left_over x t rest is =
      let (us, cut, s, ends) = ok_says Stop S p gram d ps (t ∷ rest) x is in
      let zero_le : 0 ≤ length ps = omega arith in record {
        within = omega arith;
        goes = inr (subst (IsViablePrefix (S (suc d))) (sym (slice_front ps us (t ∷ rest) 0 cut zero_le)) ([], x, subst (λ vs. S (suc d) vs x) (sym (append-nil us)) ((gram.right d 0).wider us x s)));
        ends = ends_from Stop Q opening S p gram d nest ps 0 zero_le us (t ∷ rest) cut ends;
        none = λ same. absurd (omega (arith, same, slice_end ps us (t ∷ rest) 0 cut zero_le, ap length cut, length-append us (t ∷ rest)));
        shallow = shallow Stop Q opening S p gram d nest ps 0 zero_le (Ok (x, t ∷ rest)) (length (t ∷ rest)) is refl;
      }

  pub refused_in : (left : ℕ) → p d ps ≡ Err (Grammar left) → IsRefusedIn opening S d ps (length ps - left)
  refused_in left is =
      let zero_le : 0 ≤ length ps = omega arith in
      let (us, rest, cut, count, goes, ends, none) = grammar_says Stop S p gram d ps left is in
      subst (IsRefusedIn opening S d ps) (ap (λ n. length ps - n) (sym count)) (record {
        within = omega arith;
        goes = goes_from Stop Q opening S p gram d nest ps 0 zero_le us rest cut goes;
        ends = ends_from Stop Q opening S p gram d nest ps 0 zero_le us rest cut ends;
        none = λ same m x s. none m x (subst (λ vs. S m vs x) (all us rest cut (omega (arith, same, ap length cut, length-append us rest))) s);
        shallow = subst (λ n. IsShallow opening S d ps 0 (length ps - n)) count (shallow Stop Q opening S p gram d nest ps 0 zero_le (Err (Grammar left)) left is refl);
      })
    where
      all : (us rest : List T) → ps ≡ us ++ rest → length rest ≡ 0 → ps ≡ us
      all us [] cut none = cut ∙ append-nil us
      all us (t ∷ rest) cut none = absurd (omega (arith, none))

  pub deep_in : (left : ℕ) → p d ps ≡ Err (Deep left) → IsDeepAt opening S d ps 0 (length ps - left)
  deep_in left is = deep Stop Q opening S p gram d nest ps 0 (let zero_le : 0 ≤ length ps = omega arith in zero_le) left is
