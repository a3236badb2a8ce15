-- What holds by the rule of a form is what it resolves to, with its types.
use Rattle.std.proofs.Common.{◌≡◌, ℕ, ◌+◌, List, [], ◌∷◌, ◌++◌, map, length, Option, Some, None, option_map, Bool, true, false, Result, Ok, Err, inl, inr, ◌⊎◌, refl, sym, ap, subst, ◌∙◌}
use Rattle.evo_base.specs.declared.place.Place.{Place}
use Rattle.evo_base.specs.declared.key.Key.{Key}
use Rattle.evo_base.specs.declared.fault_kind.FaultKind.{FaultKind}
use Rattle.evo_tree.specs.declared.module.SourceFault.{SourceFault}
use Rattle.evo_tree.specs.declared.name.Identifier.{Identifier}
use Rattle.evo_tree.specs.declared.expression.InfixOperator.{InfixOperator}
use Rattle.evo_tree.specs.declared.expression.Expr.{Expr, Expr-F}
use Rattle.evo_tree.specs.declared.expression.Expr.TheOpen as ex
use Rattle.evo_resolved.specs.declared.resolved_type.RType.{RType}
use Rattle.evo_resolved.specs.declared.resolved_type.RTypeName.{RTypeName}
use Rattle.evo_resolved.specs.declared.path.ConfPath.{ConfPath}
use Rattle.evo_resolved.specs.declared.expression.Reach.{Reach}
use Rattle.evo_resolved.specs.declared.expression.Reach.TheVariants as reach
use Rattle.evo_resolved.specs.declared.expression.Builtin.{Builtin}
use Rattle.evo_resolved.specs.declared.expression.Builtin.TheVariants as builtin
use Rattle.evo_resolved.specs.declared.expression.RUse.{RUse}
use Rattle.evo_resolved.specs.declared.expression.RExpr.{RExpr}
use Rattle.evo_resolved.specs.declared.expression.RExpr.TheVariants as x
use Rattle.evo_resolved.specs.declared.expression.RMember.{RMember}
use Rattle.evo_resolved.specs.declared.expression.RMember.TheVariants as y
use Rattle.evo_judging.specs.Judge.{EachOf, each}
use Rattle.evo_names.specs.Typing.{is_bool}
use Rattle.evo_typing.specs.Shapes.{Shape, Declared, Owner, nowhere, of_type, of_protocol, Found, Named, Meaning, Env, Denoted, value, names, Before, nothing, before, super, Suits}
use Rattle.evo_typing.specs.Trees.{type_name, place_of, chooser_place, given, Slot, slots, slots_from, even, paired, last_type, type_of, has_value, plain_of}
use Rattle.evo_typing.specs.Typed.{Typed, TypedLevel, TypedOperands, no_operand, one_operand, TypedMembers, no_member, one_member, TypedMember, of_property, of_call, TypedUse, AllHave, none_left, one_more, TypedPrinted, none_printed, one_printed, AllLead, none_required, one_required, AllEqual, none_equal, one_equal, CanSet, Fits}
use Rattle.evo_typing.specs.Typed as typing
use Rattle.evo_typing.specs.Places as places
use Rattle.evo_typing.specs.Places.{Chain, at_value, at_type, denoted, begun, Root, root_of, steps_of}
use Rattle.evo_typing.specs.Resolves.{Arguments, Stands, Converts, Paths, no_path, one_path, Equals, no_equal, equals, AllSet, none_set, one_set, AreMessages, Resolves, ResolvesLevel, ResolvesOperands, operands_end, operands_more, ResolvesChain, chain_end, of_value, of_type, ResolvesMeaning, a_local, an_own, a_named, a_print, a_precondition, a_fatal, ResolvesPrinted, printed_end, printed_more, ResolvesNamed, named_case, named_free, named_new, named_type, ResolvesBehind, ResolvesAbove, ResolvesUse, ResolvesArguments, arguments_end, arguments_chooser, arguments_other}
use Rattle.evo_typing.specs.Resolves as resolving
use Rattle.evo_typing.specs.Rule as rule
use Rattle.evo_typing.specs.Rule.{Used, Tells, kept_if}
use Rattle.evo_typing.specs.Infer.{Sound, a_part}
use Rattle.evo_typing.specs.Known.{Known, Knows, KnowsMeaning, KnowsNamed, above}
use Rattle.evo_typing.proofs.Forms.{put, snoc, fitted_typed, root_typed, mutated_typed, AllCanSet, none_can, one_can}

-- ---- lists of arguments

pub slot_params : (first : ℕ) (all : List RType) (i : ℕ) (ps : List RType) (as' : Arguments) → even ps as' ≡ true → map (λ s. s.param) (slots_from first all i ps as') ≡ ps
slot_params first all i [] [] e = refl
slot_params first all i [] (a ∷ as') e = absurd (cc e)
slot_params first all i (p ∷ ps) [] e = absurd (cc e)
slot_params first all i (p ∷ ps) (a ∷ as') e = ap (λ l. p ∷ l) (slot_params first all (i + 1) ps as' e)

-- where parameters are chosen behind those that are given, a member suits as before
suits_more : (d : Declared) (o : Owner) (given more : List RType) (b : Before) → Suits d o given b → Suits d o (given ++ more) b
suits_more d o g m nothing h = tt
suits_more d nowhere g m (before v) h = h
suits_more d (of_type k) g m (before v) h = h
suits_more d (of_protocol p) g m (before v) (rest, e) = (rest ++ m, ap (λ l. l ++ m) e)
suits_more d o g m (super v) h = h

given_first : (given : List RType) (o : Option (List RType)) (ts : List RType) → option_map (λ more. given ++ more) o ≡ Some ts → (more : List RType) × (given ++ more ≡ ts)
given_first g (Some m) ts e = (m, cc e)
given_first g None ts e = absurd (cc e)

module _ (env : Env) (known : Known env) where
  abbrev S : Expr → Expr
  S a = a

  abbrev pub Has : RExpr → Type 0
  Has b = Typed env.declared env.scope b

  abbrev TypedChain : Chain → Type 0
  TypedChain m = places.TypedChain env.declared env.scope m

  -- ---- parts

  pub plain_from : (w : Option RType) (a : Expr) (b : RExpr) → (rule.plain (a_part env) (λ a. a) env w a).holds b → Resolves env w a (value b) × Has b
  plain_from w a b h = go h.0 h.1 h.2
    where
      go : (q : Denoted) → Resolves env w a q × Sound env q → plain_of q ≡ Some b → Resolves env w a (value b) × Has b
      go (value c) h e = subst (λ b. Resolves env w a (value b) × Has b) (cc e) h
      go (names t) h e = absurd (cc e)

  abbrev pub Converted : RType → Expr → RExpr → Type 0
  Converted t a c = (b : RExpr) × Resolves env (Some t) a (value b) × Converts b c × Has c × (type_of c ≡ t)

  pub converted_from : (t : RType) (a : Expr) (c : RExpr) → (rule.converted (a_part env) (λ a. a) env t a).holds c → Converted t a c
  converted_from t a c (b, h, (s, told, e)) = let p = plain_from (Some t) a b h in let k = fitted_typed env b t c s p.1 told e in (b, p.0, k.0, k.1, k.2)

  pub valued_from : (w : Option RType) (a : Expr) (b : RExpr) → (rule.valued (a_part env) (λ a. a) env w a).holds b → Resolves env w a (value b) × Has b × (has_value (type_of b) ≡ true)
  valued_from w a b (c, h, (u, is, e)) = let p = plain_from w a c h in subst (λ b. Resolves env w a (value b) × Has b × (has_value (type_of b) ≡ true)) e (p.0, p.1, is)

  -- ---- searches

  checked_from : (t : Bool) (f : SourceFault) (as' : Arguments) (u : Unit {0}) → (rule.checked (a_part env) (λ a. a) env t f as').holds u → t ≡ true
  checked_from true f as' u h = refl
  checked_from false f as' u h = absurd h.2

  sought_from : {B : Type 0} (H : Result B FaultKind → Type 0) (p : Place) (r : Result B FaultKind) (as' : Arguments) (f : B) → H r → (rule.sought (a_part env) (λ a. a) env p r as').holds f → H (Ok f)
  sought_from H p (Ok g) as' f h e = subst (λ g. H (Ok g)) e h
  sought_from H p (Err k) as' f h e = absurd e.2

  found_from : {B : Type 0} (H : Result B FaultKind → Type 0) (p : Place) (as' : Arguments) (f : B) → (r : Result B FaultKind) × H r × (rule.sought (a_part env) (λ a. a) env p r as').holds f → H (Ok f)
  found_from H p as' f (r, h, k) = sought_from H p r as' f h k

  -- ---- uses

  standing_from : (s : Shape) (ts : List RType) (p : Place) (t v : RType) → (rule.standing (a_part env) (λ a. a) env s ts p t).holds v → Stands env s ts t v
  standing_from s ts p t v (o, h, (w, is, (u, short, e))) = subst (Stands env s ts t) e (subst (env.names.stands s.signature ts t) is h, short)

  in_declared : (s : Shape) {ts : List RType} {t v : RType} → Stands env s ts t v → env.declared.stands s.signature ts t v
  in_declared s {ts} {t} {v} h = known.stands s.signature ts t v h.0

  abbrev params : List (Slot Expr) → List RType
  params ss = map (λ s. s.param) ss

  abbrev IsArguments : Shape → List RType → List (Slot Expr) → List (Option RExpr) → List RExpr → Type 0
  IsArguments s ts ss own bs = ResolvesArguments env s ts ss own bs × AllHave env.declared env.scope s.signature ts (params ss) bs

  abbrev Filled : RType → Expr → Option RExpr → RExpr → Type 0
  Filled t a o c = ((o ≡ None) × (rule.converted (a_part env) (λ a. a) env t a).holds c) ⊎ ((b : RExpr) × (o ≡ Some b) × (rule.fitted (a_part env) (λ a. a) env a b t).holds c)

  one_argument : (s : Shape) (ts : List RType) (q : Slot Expr) (ss : List (Slot Expr)) (own : List (Option RExpr)) (bs : List RExpr) (o : Option RExpr) (c : RExpr) (t : RType) (w : Bool) →
      q.chooses ≡ w → (rule.chooser_if (a_part env) (λ a. a) env w q.arg).holds o → Stands env s ts q.param t → Filled t q.arg o c → IsArguments s ts ss own bs → IsArguments s ts (q ∷ ss) (o ∷ own) (c ∷ bs)
  one_argument s ts q ss own bs o c t true is (b, v, e) st (inl k) r = absurd (cc (e, k.0))
  one_argument s ts q ss own bs o c t true is (b, v, e) st (inr (a, k, (z, told, fit))) r =
      let same : a ≡ b = cc (e, k) in
      let j = valued_from None q.arg b v in
      let m = fitted_typed env b t c z j.1 (subst (λ a. Tells (type_of a ≡ t) z) same told) (subst (λ a. kept_if z a (rule.raised env.declared a (type_of a) t) ≡ Some c) same fit) in
      subst (λ o. IsArguments s ts (q ∷ ss) (o ∷ own) (c ∷ bs)) e (arguments_chooser is j.0 j.2 st m.0 r.0, one_more (subst (env.declared.stands s.signature ts q.param) (sym m.2) (in_declared s st)) m.1 r.1)
  one_argument s ts q ss own bs o c t false is e st (inl (k, h)) r =
      let (b, res, con, has, bears) = converted_from t q.arg c h in
      subst (λ o. IsArguments s ts (q ∷ ss) (o ∷ own) (c ∷ bs)) e (arguments_other is st res con r.0, one_more (subst (env.declared.stands s.signature ts q.param) (sym bears) (in_declared s st)) has r.1)
  one_argument s ts q ss own bs o c t false is e st (inr k) r = absurd (cc (e, k.1))

  args_from : (s : Shape) (ts : List RType) (p : Place) (ss : List (Slot Expr)) (own : List (Option RExpr)) (bs : List RExpr) →
      EachOf (λ q. (rule.chooser (a_part env) (λ a. a) env q).holds) ss own → EachOf (λ q. (rule.filled (a_part env) (λ a. a) env s ts p q).holds) (paired ss own) bs → IsArguments s ts ss own bs
  args_from s ts p [] [] [] h k = (arguments_end, none_left)
  args_from s ts p [] [] (b ∷ bs) h k = absurd k
  args_from s ts p [] (o ∷ own) bs h k = absurd h
  args_from s ts p (q ∷ ss) [] bs h k = absurd h
  args_from s ts p (q ∷ ss) (o ∷ own) [] h k = absurd k
  args_from s ts p (q ∷ ss) (o ∷ own) (c ∷ bs) h k = one_argument s ts q ss own bs o c k.0.0 q.chooses refl h.0 (standing_from s ts p q.param k.0.0 k.0.1) k.0.2 (args_from s ts p ss own bs h.1 k.1)

  paths_from : (s : Shape) (ts : List RType) (place : RType → Place) (rs : List (RType × Key)) (qs : List ConfPath) → (each (rule.path (a_part env) (λ a. a) env s ts place) rs).holds qs → Paths env s ts rs qs × AllLead env.declared s.signature ts rs qs
  paths_from s ts place [] [] h = (no_path, none_required)
  paths_from s ts place [] (q ∷ qs) h = absurd h
  paths_from s ts place (r ∷ rs) [] h = absurd h
  paths_from s ts place (r ∷ rs) (q ∷ qs) ((t, st, (o, is_o, e)), h) =
      let k = paths_from s ts place rs qs h in
      let st = standing_from s ts (place r.0) r.0 t st in
      let first = subst (env.names.path t r.1) e is_o in
      (one_path st first k.0, one_required (in_declared s st) (known.path t r.1 q first) k.1)

  one_equality : (s : Shape) (ts : List RType) (r : RType × RType) (rs : List (RType × RType)) (t u : RType) (b : Bool) → Stands env s ts r.0 t → Stands env s ts r.1 u → Tells (t ≡ u) b → b ≡ true →
      Equals env s ts rs × AllEqual env.declared s.signature ts rs → Equals env s ts (r ∷ rs) × AllEqual env.declared s.signature ts (r ∷ rs)
  one_equality s ts r rs t u true h k told e rest = let k = subst (Stands env s ts r.1) (sym told) k in (equals h k rest.0, one_equal (in_declared s h) (in_declared s k) rest.1)
  one_equality s ts r rs t u false h k told e rest = absurd (cc e)

  equals_from : (s : Shape) (ts : List RType) (place : RType → Place) (rs : List (RType × RType)) (us : List (Unit {0})) → (each (rule.equal (a_part env) (λ a. a) env s ts place) rs).holds us → Equals env s ts rs × AllEqual env.declared s.signature ts rs
  equals_from s ts place [] us h = (no_equal, none_equal)
  equals_from s ts place (r ∷ rs) [] h = absurd h
  equals_from s ts place (r ∷ rs) (u ∷ us) ((t, h, (v, k, (b, told, e))), hs) = one_equality s ts r rs t v b (standing_from s ts (place r.0) r.0 t h) (standing_from s ts (place r.1) r.1 v k) told e (equals_from s ts place rs us hs)

  abbrev IsUse : Before → Found → Option RTypeName → Place → Arguments → Used → Type 0
  IsUse b f t p as' q = ResolvesUse env f t p as' q.0 q.1 × TypedUse env.declared env.scope b q.0 q.1

  using_from : (b : Before) (f : Found) (t : Option RTypeName) (p : Place) (as' : Arguments) (q : Used) → Knows env b f → (rule.using (a_part env) (λ a. a) env f t p as').holds q → IsUse b f t p as' q
  using_from b f t p as' q knows (u, ch, (own, h, (ts, is_ts, (bs, k, (qs, l, (es, m, (u2, is_there, (v, st, e)))))))) =
      let is_even = checked_from (even f.shape.params as') _ as' u ch in
      let a = args_from f.shape ts p (slots f as') own bs h k in
      let place : RType → Place = λ r. chooser_place place_of (slots f as') r p in
      let b1 = paths_from f.shape ts place f.shape.required qs l in
      let c = equals_from f.shape ts place f.shape.equal es m in
      let st = standing_from f.shape ts p f.shape.result v st in
      let (more, is_more) = given_first f.given _ ts is_ts in
      let have = subst (λ ps. AllHave env.declared env.scope f.shape.signature ts ps bs) (slot_params (length f.given) f.shape.params 0 f.shape.params as' is_even) a.1 in
      let suits = subst (λ ts. Suits env.declared f.shape.owner ts b) is_more (suits_more env.declared f.shape.owner f.given more b knows.1) in
      subst (IsUse b f t p as') e
      (resolving.used is_even is_ts a.0 b1.0 c.0 is_there st, typing.used f.shape (record { is = knows.0; reach = refl; suits = suits; conforms = b1.1; equal = c.1; result = in_declared f.shape st }) have)

  -- without parameters no argument is there
  no_args : {u : RUse} {bs : List RExpr} (f : Found) (t : Option RTypeName) (p : Place) → ResolvesUse env f t p [] u bs → bs ≡ []
  no_args f t p (resolving.used {own} {ts} {bs} many is args ps es there at) = go own bs (subst (λ ss. ResolvesArguments env f.shape ts ss own bs) (none f.shape.params) args)
    where
      none : (ps : List RType) → slots_from {A = Expr} (length f.given) f.shape.params 0 ps [] ≡ []
      none [] = refl
      none (p ∷ ps) = refl

      go : (own : List (Option RExpr)) (bs : List RExpr) → ResolvesArguments env f.shape ts [] own bs → bs ≡ []
      go own bs arguments_end = refl

  -- ---- names without a value before them

  abbrev IsNamed : Named → Option RTypeName → Place → Option Arguments → Denoted → Type 0
  IsNamed n t p as' b = ResolvesNamed env n t p as' b × Sound env b

  named_from : (n : Named) (t : Option RTypeName) (p : Place) (as' : Option Arguments) (b : Denoted) → KnowsNamed env n → (rule.named (a_part env) (λ a. a) env n t p as').holds b → IsNamed n t p as' b
  named_from (Named.case f) t p as' b knows (q, h, e) = let k = using_from nothing f t p (given as') q knows h in subst (IsNamed (Named.case f) t p as') e (named_case k.0, put _ _ (x.outs-Case q) (TypedLevel.case k.1))
  named_from (Named.free f) t p as' b knows (q, h, e) = let k = using_from nothing f t p (given as') q knows h in subst (IsNamed (Named.free f) t p as') e (named_free k.0, put _ _ (x.outs-Call q) (TypedLevel.call k.1))
  named_from (Named.new f n) t p as' b knows (q, h, e) = let k = using_from nothing f (Some (type_name t p n)) p (given as') q knows h in subst (IsNamed (Named.new f n) t p as') e (named_new k.0, put _ _ (x.outs-New q) (TypedLevel.new k.1))
  named_from (Named.type n available) t p as' b knows (u, is, e) = subst (IsNamed (Named.type n available) t p as') e (named_type is, tt)

  -- ---- members

  begun_typed : (b : Denoted) → Sound env b → TypedChain (begun b)
  begun_typed (value b) h = (h, no_member)
  begun_typed (names t) h = tt

  denoted_typed : (c : Chain) → TypedChain c → Sound env (denoted c)
  denoted_typed (at_value b []) h = h.0
  denoted_typed (at_value b (n ∷ ns)) h = put _ _ (x.outs-Members b (n ∷ ns)) (TypedLevel.members h.0 h.1)
  denoted_typed (at_type t) h = tt

  sets_from : (p : Place) (us : List RUse) (ts : List (Unit {0})) → (each (rule.set (a_part env) (λ a. a) env p) us).holds ts → AllSet env us × AllCanSet env.declared us
  sets_from p [] ts h = (none_set, none_can)
  sets_from p (u ∷ us) [] h = absurd h
  sets_from p (u ∷ us) (t ∷ ts) ((o, h, (s, is, set)), hs) =
      let k = sets_from p us ts hs in
      let h = subst (env.names.shape u.key) is h in
      (one_set s h set k.0, one_can (s, known.shape u.key s h, set) k.1)

  abbrev IsBehind : Bool → Found → RExpr → List RMember → Place → Option Arguments → Chain → Type 0
  IsBehind t f b ns p as' m = ResolvesBehind env t f b ns p as' m × TypedChain m

  property_from : (f : Found) (b : RExpr) (ns : List RMember) (p : Place) (q : Used) → IsUse (before (last_type (type_of b) ns)) f None p [] q → TypedChain (at_value b ns) → IsBehind false f b ns p None (at_value b (ns ++ y.Property q.0 ∷ []))
  property_from f b ns p (u, bs) (r, k) t =
      let none : bs ≡ [] = no_args f None p r in
      (ResolvesBehind.property (subst (ResolvesUse env f None p [] u) none r), (t.0, snoc (y.Property u) t.1 (rw (y.outs-Property u) (of_property (subst (TypedUse env.declared env.scope _ u) none k)))))

  calling_from : (f : Found) (b : RExpr) (ns : List RMember) (p : Place) (as' : Arguments) (q : Used) → IsUse (before (last_type (type_of b) ns)) f None p as' q → TypedChain (at_value b ns) → IsBehind false f b ns p (Some as') (at_value b (ns ++ y.Called q ∷ []))
  calling_from f b ns p as' (u, bs) (r, k) t = (ResolvesBehind.calling r, (t.0, snoc (y.Called (u, bs)) t.1 (rw (y.outs-Called (u, bs)) (of_call k))))

  behind_from : (t : Bool) (f : Found) (b : RExpr) (ns : List RMember) (p : Place) (as' : Option Arguments) (m : Chain) → Knows env (before (last_type (type_of b) ns)) f → TypedChain (at_value b ns) →
      (rule.behind (a_part env) (λ a. a) env t f b ns p as').holds m → IsBehind t f b ns p as' m
  behind_from false f b ns p None m knows t (n, (q, h, is), e) =
      let k = property_from f b ns p q (using_from _ f None p [] q knows h) t in
      subst (IsBehind false f b ns p None) (ap (λ n. at_value b (ns ++ n ∷ [])) is ∙ e) k
  behind_from false f b ns p (Some as') m knows t (n, (q, h, is), e) =
      let k = calling_from f b ns p as' q (using_from _ f None p as' q knows h) t in
      subst (IsBehind false f b ns p (Some as')) (ap (λ n. at_value b (ns ++ n ∷ [])) is ∙ e) k
  behind_from true f b ns p as' m knows t (q, h, (l, is_l, (us, set, e))) =
      let (r, k) = using_from _ f None p (given as') q knows h in
      let s = sets_from p _ us set in
      subst (IsBehind true f b ns p as') e
      (ResolvesBehind.mutating r t is_l s.0, mutated_typed env b _ (root_of env b ns) q.0 q.1 l t.0 (root_typed env b ns t) s.1 k is_l)

  -- `self` has its type
  self_typed : (p : Place) (v : RType) → env.scope.self ≡ Some v → TypedChain (at_value (x.SelfValue p v) [])
  self_typed p v is = (put _ _ (x.outs-SelfValue p v) (TypedLevel.self is), no_member)

  abbrev IsAbove : Reach → Found → RType → Place → Place → Arguments → Denoted → Type 0
  IsAbove s f v q p as' b = ResolvesAbove env s f v q p as' b × Sound env b

  -- a member that is called on `self` itself
  on_self : (f : Found) (v : RType) (q p : Place) (as' : Arguments) (a : Used) → env.scope.self ≡ Some v → IsUse (before v) f None p as' a → Has (x.Members (x.SelfValue q v) (y.Called a ∷ []))
  on_self f v q p as' (u, bs) is k =
      let t = self_typed q v is in
      put _ _ (x.outs-Members (x.SelfValue q v) (y.Called (u, bs) ∷ [])) (TypedLevel.members t.0 (one_member (rw (x.outs-SelfValue q v, y.outs-Called (u, bs)) (of_call k.1)) no_member))

  above_from : (s : Reach) (f : Found) (v : RType) (q p : Place) (as' : Arguments) (b : Denoted) → env.scope.self ≡ Some v → Knows env (above s v) f → (rule.above (a_part env) (λ a. a) env s f v q p as').holds b → IsAbove s f v q p as' b
  above_from reach.Dispatched f v q p as' b is knows (a, h, e) = let k = using_from (super v) f None p as' a knows h in subst (IsAbove reach.Dispatched f v q p as') e (ResolvesAbove.dispatched k.0, put _ _ (x.outs-Super a) (TypedLevel.above is k.1))
  above_from reach.Static f v q p as' b is knows (a, h, e) = let k = using_from (before v) f None p as' a knows h in subst (IsAbove reach.Static f v q p as') e (ResolvesAbove.static k.0, on_self f v q p as' a is k)
  above_from reach.Witness f v q p as' b is knows (a, h, e) = let k = using_from (before v) f None p as' a knows h in subst (IsAbove reach.Witness f v q p as') e (ResolvesAbove.witness k.0, on_self f v q p as' a is k)

  -- ---- names that stand alone

  printed_from : (as' : Arguments) (bs : List RExpr) → (each (rule.printed (a_part env) (λ a. a) env) as').holds bs → ResolvesPrinted env as' bs × TypedPrinted env.declared env.scope bs
  printed_from [] [] h = (printed_end, none_printed)
  printed_from [] (b ∷ bs) h = absurd h
  printed_from (a ∷ as') [] h = absurd h
  printed_from (a ∷ as') (b ∷ bs) ((c, h, (u, is, e)), k) =
      let (r, t) = plain_from None a.1 c h in
      let (rs, ts) = printed_from as' bs k in
      subst (λ b. ResolvesPrinted env (a ∷ as') (b ∷ bs) × TypedPrinted env.declared env.scope (b ∷ bs)) e (printed_more r rs, one_printed is t ts)

  messages_from : (as' : Arguments) (us : List (Unit {0})) → (each (rule.message (a_part env) (λ a. a) env) as').holds us → AreMessages as'
  messages_from [] us h = tt
  messages_from (a ∷ as') [] h = absurd h
  messages_from (a ∷ as') (u ∷ us) ((b, h, is), hs) = (is, messages_from as' us hs)

  abbrev IsMeaning : Meaning → Place → Option Arguments → Denoted → Type 0
  IsMeaning m p as' b = ResolvesMeaning env m p as' b × Sound env b

  built_from : (f : Builtin) (p : Place) (as' : Option Arguments) (l : Arguments) (b : Denoted) → given as' ≡ l → (rule.built (a_part env) (λ a. a) env f p l).holds b → IsMeaning (Meaning.builtin f) p as' b
  built_from builtin.Print p as' l b is (bs, h, e) = let k = printed_from l bs h in subst (IsMeaning (Meaning.builtin builtin.Print) p as') e (a_print (subst (λ l. ResolvesPrinted env l bs) (sym is) k.0), put _ _ (x.outs-Builtin p builtin.Print bs) (TypedLevel.print k.1))
  built_from builtin.Precondition p as' [] b is h = absurd h
  built_from builtin.Precondition p as' (a ∷ l) b is (c, (d, h, (u, is_bool, e2)), (us, m, e)) =
      let (r, t) = plain_from _ a.1 d h in
      let ms = messages_from l us m in
      subst (IsMeaning (Meaning.builtin builtin.Precondition) p as') (ap (λ c. value (x.Builtin p builtin.Precondition (c ∷ []))) e2 ∙ e)
      (a_precondition is r ms, put _ _ (x.outs-Builtin p builtin.Precondition (d ∷ [])) (TypedLevel.precondition t is_bool))
  built_from builtin.Fatal p as' l b is (us, m, e) =
      subst (IsMeaning (Meaning.builtin builtin.Fatal) p as') e (a_fatal (subst AreMessages (sym is) (messages_from l us m)), put _ _ (x.outs-Builtin p builtin.Fatal []) TypedLevel.fatal)

  meaning_from : (m : Meaning) (p : Place) (as' : Option Arguments) (b : Denoted) → KnowsMeaning env m → (rule.meaning (a_part env) (λ a. a) env m p as').holds b → IsMeaning m p as' b
  meaning_from (Meaning.local l) p as' b knows e = subst (IsMeaning (Meaning.local l) p as') e (a_local, put _ _ (x.outs-Local p l.number l.type) (TypedLevel.local knows))
  meaning_from (Meaning.own f) p as' b knows (v, is, (c, h, e)) =
      let k = behind_from f.shape.mutates f (x.SelfValue p v) [] p as' c (rw (x.outs-SelfValue p v) (knows v is)) (self_typed p v is) h in
      subst (IsMeaning (Meaning.own f) p as') e (an_own is k.0, denoted_typed c k.1)
  meaning_from (Meaning.named n) p as' b knows h = let k = named_from n None p as' b knows h in (a_named k.0, k.1)
  meaning_from (Meaning.builtin f) p as' b knows h = built_from f p as' (given as') b refl h

  -- ---- chains

  operands_from : (t : RType) (os : List (InfixOperator × Expr)) (p : Place) (bs : List (InfixOperator × RExpr)) (v : RType) → (rule.operands (a_part env) (λ a. a) env t os p).holds (bs, v) → ResolvesOperands env t os bs v × TypedOperands env.declared env.scope t bs v
  operands_from t [] p bs v e = subst (λ q. ResolvesOperands env t [] q.0 q.1 × TypedOperands env.declared env.scope t q.0 q.1) e (operands_end, no_operand)
  operands_from t (o ∷ os) p bs v (z, is, (b, h, (u, op, (r, k, e)))) =
      let (res, has) = plain_from z o.1 b h in
      let (rs, ts) = operands_from u os p r.0 r.1 k in
      subst (λ q. ResolvesOperands env t (o ∷ os) q.0 q.1 × TypedOperands env.declared env.scope t q.0 q.1) e (operands_more is res op rs, one_operand op has ts)

  chain_from : (ms : List (Identifier × Option Arguments)) (c c' : Chain) (p : Place) → TypedChain c → (rule.chain (a_part env) (λ a. a) env c ms p).holds c' → ResolvesChain env c ms c' × TypedChain c'
  chain_from [] c c' p t e = subst (λ c'. ResolvesChain env c [] c' × TypedChain c') e (chain_end, t)
  chain_from (q ∷ ms) (at_value b ns) c' p t (u, ch, (f, fo, (m, h, k))) =
      let valued = checked_from (has_value (last_type (type_of b) ns)) _ (given q.1) u ch in
      let is = found_from _ q.0.place (given q.1) f fo in
      let (r, s) = behind_from f.shape.mutates f b ns q.0.place q.1 m (known.member (last_type (type_of b) ns) q.0.text _ f is) t h in
      let (rs, ts) = chain_from ms m c' p s k in
      (of_value valued is r rs, ts)
  chain_from (q ∷ ms) (at_type t) c' p u (n, fo, (b, h, k)) =
      let is = found_from _ q.0.place (given q.1) n fo in
      let (r, s) = named_from n (Some t) q.0.place q.1 b (known.inner t q.0.text _ n is) h in
      let (rs, ts) = chain_from ms (begun b) c' p (begun_typed b s) k in
      (of_type is r rs, ts)

  -- ---- the forms

  abbrev IsForm : Option RType → Expr-F Expr → Denoted → Type 0
  IsForm w l b = ResolvesLevel env w l b × Sound env b

  super_from : (w : Option RType) (p : Place) (i : Identifier) (as' : Arguments) (b : Denoted) → (rule.rule (a_part env) (λ a. a) env w (ex.Super p i as')).holds b → IsForm w (ex.Super p i as') b
  super_from w p i as' b (inl h) = absurd h.1.2
  super_from w p i as' b (inr (v, is_v, (f, fo, h))) =
      let is = found_from _ i.place as' f fo in
      let k = above_from f.shape.reach f v p i.place as' b is_v (known.upper i.text _ f v is_v is) h in
      (ResolvesLevel.above is_v is k.0, k.1)

  implicit_from : (w : Option RType) (p : Place) (i : Identifier) (as' : Option Arguments) (b : Denoted) → (rule.rule (a_part env) (λ a. a) env w (ex.ImplicitMember p i as')).holds b → IsForm w (ex.ImplicitMember p i as') b
  implicit_from w p i as' b (inl h) = absurd h.1.2
  implicit_from w p i as' b (inr (t, is_t, (n, fo, h))) =
      let is = found_from _ i.place (given as') n fo in
      let k = named_from n None i.place as' b (known.implicit t i.text _ n is) h in
      subst (λ w. IsForm w (ex.ImplicitMember p i as') b) (sym is_t) (ResolvesLevel.implicit is k.0, k.1)

  pub rule_from : (w : Option RType) (l : Expr-F Expr) (b : Denoted) → (rule.rule (a_part env) (λ a. a) env w l).holds b → IsForm w l b
  rule_from w (ex.Integer p n) b e = subst (IsForm w (ex.Integer p n)) e (ResolvesLevel.integer, put _ _ (x.outs-Literal _) TypedLevel.written)
  rule_from w (ex.Negative p n) b e = subst (IsForm w (ex.Negative p n)) e (ResolvesLevel.minus, put _ _ (x.outs-Literal _) TypedLevel.written)
  rule_from w (ex.Boolean p n) b e = subst (IsForm w (ex.Boolean p n)) e (ResolvesLevel.boolean, put _ _ (x.outs-Literal _) TypedLevel.written)
  rule_from w (ex.String p n) b e = subst (IsForm w (ex.String p n)) e (ResolvesLevel.text, put _ _ (x.outs-Literal _) TypedLevel.written)
  rule_from w (ex.Name i as') b (m, fo, h) =
      let is = found_from _ i.place (given as') m fo in
      let k = meaning_from m i.place as' b (known.name i.text _ m is) h in
      (ResolvesLevel.name is k.0, k.1)
  rule_from w (ex.SelfValue p) b (v, is, e) = subst (IsForm w (ex.SelfValue p)) e (ResolvesLevel.self is, put _ _ (x.outs-SelfValue p v) (TypedLevel.self is))
  rule_from w (ex.SelfType p) b (t, is, e) = subst (IsForm w (ex.SelfType p)) e (ResolvesLevel.self_type is, tt)
  rule_from w (ex.Super p i as') b h = super_from w p i as' b h
  rule_from w (ex.ImplicitMember p i as') b h = implicit_from w p i as' b h
  rule_from w (ex.Parenthesised p a) b (c, h, e) = let k = valued_from w a c h in subst (IsForm w (ex.Parenthesised p a)) e (ResolvesLevel.parens k.0 k.2, k.1)
  rule_from w (ex.Prefix p o a) b (c, h, (t, is, e)) = let k = plain_from _ a c h in subst (IsForm w (ex.Prefix p o a)) e (ResolvesLevel.prefix k.0, put _ _ (x.outs-Prefix o c) (TypedLevel.prefix k.1 is))
  rule_from w (ex.Members a ms) b (d, h, (c, k, e)) = let l = chain_from ms (begun d) c _ (begun_typed d h.1) k in subst (IsForm w (ex.Members a ms)) e (ResolvesLevel.members h.0 l.0, denoted_typed c l.1)
  rule_from w (ex.Chain a os) b (c, h, (r, k, e)) =
      let (res, has) = plain_from _ a c h in
      let l = operands_from (type_of c) os _ r.0 r.1 k in
      subst (IsForm w (ex.Chain a os)) e (ResolvesLevel.chain res l.0, put _ _ (x.outs-Chain c r.0 r.1) (TypedLevel.chain has l.1))
