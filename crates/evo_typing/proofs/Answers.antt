-- Each question of a site has one answer, and what is found is what its key stands for.
use Rattle.std.proofs.Common.{◌≡◌, ℕ, List, [], ◌∷◌, map, Option, Some, None, Bool, true, false, ◌&&◌, Result, Ok, Err, slice_get, refl, sym, ap, subst, ◌∙◌}
use Rattle.evo_base.specs.declared.key.Key.{Key}
use Rattle.evo_base.specs.declared.fault_kind.FaultKind.{FaultKind}
use Rattle.evo_base.specs.declared.fault_kind.FaultKind.TheVariants.{NoSuchName, WrongType}
use Rattle.evo_resolved.specs.declared.resolved_type.RType.{RType}
use Rattle.evo_resolved.specs.declared.resolved_type.RType.TheVariants as ty
use Rattle.evo_resolved.specs.declared.resolved_type.RTypeName.{RTypeName}
use Rattle.evo_resolved.specs.declared.declaration.RDecl.{RDecl}
use Rattle.evo_names.specs.declared.declared_name.Sort.{Sort}
use Rattle.evo_names.specs.declared.declared_name.Sort.TheVariants as sort
use Rattle.evo_names.specs.Listed.{Text, Declaration, sort_of}
use Rattle.evo_names.specs.Heads.{is_language_type}
use Rattle.evo_names.specs.Dispatch.{reach_of}
use Rattle.evo_names.specs.Resolved.{memberwise_key}
use Rattle.evo_names.specs.Search as search
use Rattle.evo_names.proofs.OneDeclared.{one_declared}
use Rattle.evo_names.proofs.OneMeaning.{one_meaning}
use Rattle.evo_solve.specs.declared.declarations.Protocol.{Protocol}
use Rattle.evo_solve.specs.Equal as equality
use Rattle.evo_solve.specs.Ways.{PathOrNone, goal_of}
use Rattle.evo_solve.proofs.Standing.{one_canonical}
use Rattle.evo_solve.proofs.OnePath.{one_first_path}
use Rattle.evo_typing.specs.Shapes.{Shape, Local, Found, Written, Named, Meaning, Env, Before, nothing, before, super}
use Rattle.evo_typing.specs.Known.{OneAnswer, Known, above}
use Rattle.evo_typing.specs.Site.{Site, in_static, self_of, viewpoint, shape_of, Stated, by_declaration, by_memberwise, declared_at}
use Rattle.evo_typing.specs.Searches
use Rattle.evo_typing.specs.Searches.{OrNone, Gives, given_by, IsFound, IsMemberwiseFound, Selects, no_more, takes, leaves, IsReceiver, of_named, of_parameter, of_path, of_nothing, Alone, as_named, TypeNamed, MeansType, LeadsToType, env_at}
use Rattle.evo_typing.specs.Facts.{Facts}

-- ---- forms of answers

one_or_none : {A : Type 0} (H : A → Type 0) → OneAnswer H → OneAnswer (OrNone H)
one_or_none H one (Some x) (Some y) h k = ap Some (one x y h k)
one_or_none H one (Some x) None h k = absurd (k x h)
one_or_none H one None (Some y) h k = absurd (h y k)
one_or_none H one None None h k = refl

one_given : {A B : Type 0} (H : A → Type 0) (make : A → B) → OneAnswer H → OneAnswer (Gives H make)
one_given H make one r q (x, h, e) (y, k, f) = e ∙ ap (λ x. Ok (make x)) (one x y h k) ∙ sym f

one_value : {A : Type 0} (x : A) → OneAnswer (λ (y : A). y ≡ x)
one_value x y z h k = h ∙ sym k

one_alone : (H : Result Named FaultKind → Type 0) → OneAnswer H → OneAnswer (Alone H)
one_alone H one r q (n, h, e) (m, k, f) = sym e ∙ ap as_named (one n m h k) ∙ f

abbrev found : Key → Shape → List RType → Bool → Found
found k s g a = record { key = k; shape = s; given = g; available = a }

one_record : {k l : Key} {s t : Shape} {g h : List RType} {a b : Bool} → k ≡ l → s ≡ t → g ≡ h → a ≡ b → found k s g a ≡ found l t h b
one_record {k} {l} {s} {t} {g} {h} {a} {b} e f x y = ap (λ k. found k s g a) e ∙ ap (λ s. found l s g a) f ∙ ap (λ g. found l t g a) x ∙ ap (λ a. found l t h a) y

module _ (s : Site) (facts : Facts s) where
  -- ---- declarations

  one_found : (ts : List RType) (b c : Before) (u : Bool) (d : Declaration) (f g : Found) → IsFound s ts b u d f → IsFound s ts c u d g → f ≡ g
  one_found ts b c u d f g h k =
      let same : h.decl ≡ k.decl = one_declared d h.decl k.decl h.declared k.declared in
      let shapes : Some f.shape ≡ Some g.shape = sym h.shape ∙ ap (λ r. shape_of r (reach_of d)) same ∙ k.shape in
      let shape : f.shape ≡ g.shape = cc shapes in
      one_record (h.key ∙ ap (λ (r : RDecl). r.key) same ∙ sym k.key) shape (h.given ∙ ap (λ (x : Shape). given_by x.owner ts) shape ∙ sym k.given) (h.available ∙ sym k.available)

  stated : (ts : List RType) (b : Before) (u : Bool) (d : Declaration) (f : Found) → IsFound s ts b u d f → Stated s.world f.key f.shape
  stated ts b u d f h = by_declaration h.number d h.decl h.at h.root h.declared (sym h.key) h.shape

  knows : (ts : List RType) (b : Before) (u : Bool) (d : Declaration) (f : Found) → IsFound s ts b u d f → Stated s.world f.key f.shape × Rattle.evo_typing.specs.Shapes.Suits (declared_at s) f.shape.owner f.given b
  knows ts b u d f h = (stated ts b u d f h, h.suits)

  memberwise_stated : (u : Bool) (k : Key) (f : Found) → IsMemberwiseFound s u k f → Stated s.world f.key f.shape
  memberwise_stated u k f h = by_memberwise h.number h.name h.decl h.at h.declared (sym h.key) h.shape

  one_memberwise : (u : Bool) (k : Key) (f g : Found) → IsMemberwiseFound s u k f → IsMemberwiseFound s u k g → f ≡ g
  one_memberwise u k f g h j =
      let name : h.name.text ≡ j.name.text = h.is ∙ sym j.is in
      let a : f.key ≡ memberwise_key s.world h.name h.declared.labels = h.key ∙ ap (λ (r : RDecl). r.key) h.declared.whole in
      let b : g.key ≡ memberwise_key s.world j.name j.declared.labels = j.key ∙ ap (λ (r : RDecl). r.key) j.declared.whole in
      let labels : Some h.declared.labels ≡ Some j.declared.labels = sym h.declared.unwritten ∙ ap (λ n. Rattle.evo_names.specs.Listed.memberwise_labels s.world.own n) name ∙ j.declared.unwritten in
      let key : f.key ≡ g.key = a ∙ ap (λ n. of_text n h.declared.labels) name ∙ ap (λ ls. of_text j.name.text ls) (cc labels) ∙ sym b in
      one_record key (facts.one_declaration g.key f.shape g.shape (subst (λ k. Stated s.world k f.shape) key (memberwise_stated u k f h)) (memberwise_stated u k g j)) (h.given ∙ sym j.given) (h.available ∙ sym j.available)
    where
      of_text : Text → List Text → Key
      of_text n ls = record { «module» = s.world.own.name; context = s.world.own.name ∷ n ∷ []; base = Rattle.std.proofs.Common.codes "init"; labels = Some ls; part = record { marks = [] } }

  -- ---- receivers

  one_selected : (P : Key → Type 0) (qs : List Protocol) (ks ls : List Key) → Selects P qs ks → Selects P qs ls → ks ≡ ls
  one_selected P [] ks ls no_more no_more = refl
  one_selected P (q ∷ qs) ks ls (takes {ks = ms} p h) (takes {ks = ns} r k) = ap (λ l. q.key ∷ l) (one_selected P qs ms ns h k)
  one_selected P (q ∷ qs) ks ls (takes p h) (leaves r k) = absurd (r p)
  one_selected P (q ∷ qs) ks ls (leaves p h) (takes r k) = absurd (p r)
  one_selected P (q ∷ qs) ks ls (leaves p h) (leaves r k) = one_selected P qs ks ls h k

  abbrev required : List Key → search.Receiver
  required ks = record { named = None; protocols = ks }

  one_receiver : (v : RType) → OneAnswer (IsReceiver s v)
  one_receiver (ty.Named k) c d of_named of_named = refl
  one_receiver (ty.Param i) c d (of_parameter {ks} h) (of_parameter {ks = ls} k) = ap required (one_selected _ _ ks ls h k)
  one_receiver (ty.Assoc i ns) c d (of_path {ks} h) (of_path {ks = ls} k) = ap required (one_selected _ _ ks ls h k)
  one_receiver ty.NoValue c d of_nothing of_nothing = refl

  -- ---- members of values

  one_member_by : (t : Bool) (v : RType) (d : Declaration) → OneAnswer (Searches.IsMemberBy t s v d)
  one_member_by true v d = one_given _ _ (one_found (v ∷ []) (before v) (before v) true d)
  one_member_by false v d = one_value _

  one_member : (v : RType) (x : search.Found) → OneAnswer (Searches.IsMember s v x)
  one_member v (search.declaration d) = one_member_by _ v d
  one_member v (search.nothing k) = one_value _
  one_member v (search.local i) = one_value _
  one_member v (search.parameter i) = one_value _
  one_member v (search.memberwise k) = one_value _
  one_member v (search.language n) = one_value _

  one_member_of : (v : RType) (n : Text) (ls : Option (List Text)) → OneAnswer (Searches.MemberOf s v n ls)
  one_member_of v n ls r q h k =
      let same : k.receiver ≡ h.receiver = one_receiver v k.receiver h.receiver k.is h.is in
      one_member v _ r q h.outcome (subst (λ c. Searches.IsMember s v (search.member s.world (viewpoint s) c (Searches.sought n ls false)) q) same k.outcome)

  member_by_known : (t : Bool) (v : RType) (d : Declaration) (f : Found) → Searches.IsMemberBy t s v d (Ok f) → Stated s.world f.key f.shape × Rattle.evo_typing.specs.Shapes.Suits (declared_at s) f.shape.owner f.given (before v)
  member_by_known true v d f (g, h, e) =
      let same : g ≡ f = cc e in
      knows (v ∷ []) (before v) true d f (subst (IsFound s (v ∷ []) (before v) true d) same h)
  member_by_known false v d f e = absurd (cc e)

  abbrev KnownFound : Before → Found → Type 0
  KnownFound b f = Stated s.world f.key f.shape × Rattle.evo_typing.specs.Shapes.Suits (declared_at s) f.shape.owner f.given b

  member_known : (v : RType) (x : search.Found) (f : Found) → Searches.IsMember s v x (Ok f) → KnownFound (before v) f
  member_known v (search.declaration d) f h = member_by_known _ v d f h
  member_known v (search.nothing k) f e = absurd (cc e)
  member_known v (search.local i) f e = absurd (cc e)
  member_known v (search.parameter i) f e = absurd (cc e)
  member_known v (search.memberwise k) f e = absurd (cc e)
  member_known v (search.language n) f e = absurd (cc e)

  -- ---- behind `super`

  one_above_by : (t : Bool) (v : RType) (d : Declaration) → OneAnswer (Searches.IsAboveBy t s v d)
  one_above_by true v d = one_given _ _ (λ f g. one_found (v ∷ []) (above f.shape.reach v) (above g.shape.reach v) true d f g)
  one_above_by false v d = one_value _

  one_above : (v : RType) (x : search.Found) → OneAnswer (Searches.IsAbove s v x)
  one_above v (search.declaration d) = one_above_by _ v d
  one_above v (search.nothing k) = one_value _
  one_above v (search.local i) = one_value _
  one_above v (search.parameter i) = one_value _
  one_above v (search.memberwise k) = one_value _
  one_above v (search.language n) = one_value _

  one_upper : (t : Option RType) (n : Text) (ls : List Text) → OneAnswer (Searches.UpperBy s t n ls)
  one_upper None n ls = one_value _
  one_upper (Some v) n ls = one_above v _

  above_by_known : (t : Bool) (v : RType) (d : Declaration) (f : Found) → Searches.IsAboveBy t s v d (Ok f) → KnownFound (above f.shape.reach v) f
  above_by_known true v d f (g, h, e) =
      let same : g ≡ f = cc e in
      let h : IsFound s (v ∷ []) (above f.shape.reach v) true d f = subst (λ (g : Found). IsFound s (v ∷ []) (above g.shape.reach v) true d g) same h in
      knows (v ∷ []) (above f.shape.reach v) true d f h
  above_by_known false v d f e = absurd (cc e)

  above_known : (v : RType) (x : search.Found) (f : Found) → Searches.IsAbove s v x (Ok f) → KnownFound (above f.shape.reach v) f
  above_known v (search.declaration d) f h = above_by_known _ v d f h
  above_known v (search.nothing k) f e = absurd (cc e)
  above_known v (search.local i) f e = absurd (cc e)
  above_known v (search.parameter i) f e = absurd (cc e)
  above_known v (search.memberwise k) f e = absurd (cc e)
  above_known v (search.language n) f e = absurd (cc e)

  upper_known : (t : Option RType) (n : Text) (ls : List Text) (f : Found) (v : RType) → t ≡ Some v → Searches.UpperBy s t n ls (Ok f) → KnownFound (above f.shape.reach v) f
  upper_known None n ls f v is h = absurd (cc is)
  upper_known (Some u) n ls f v is h = let same : u ≡ v = cc is in subst (λ v. KnownFound (above f.shape.reach v) f) same (above_known u _ f h)

  -- ---- types

  abbrev KnownNamed : Named → Type 0
  KnownNamed (Named.case f) = KnownFound nothing f
  KnownNamed (Named.free f) = KnownFound nothing f
  KnownNamed (Named.new f w) = KnownFound nothing f
  KnownNamed (Named.type w a) = Unit {0}

  -- what is given is known, if all that it is made of is
  given_known : {A : Type 0} (H : A → Type 0) (make : A → Named) (n : Named) → ((x : A) → H x → KnownNamed (make x)) → Gives H make (Ok n) → KnownNamed n
  given_known H make n known (x, h, e) = let same : make x ≡ n = cc e in subst KnownNamed same (known x h)

  one_written : (H : List Key → RType → Type 0) → ((ks ls : List Key) (t u : RType) → H ks t → H ls u → (ks ≡ ls) × (t ≡ u)) → OneAnswer (λ (w : Written). H w.aliases w.type)
  one_written H one w x h k = let (e, f) = one w.aliases x.aliases w.type x.type h k in ap (λ ks. written ks w.type) e ∙ ap (λ t. written x.aliases t) f
    where
      written : List Key → RType → Written
      written ks t = record { aliases = ks; type = t }

  one_initialiser : (w : Written) (x : search.Found) → OneAnswer (Searches.IsInitialiser s w x)
  one_initialiser w (search.declaration d) = one_given _ _ (one_found [] nothing nothing _ d)
  one_initialiser w (search.memberwise k) = one_given _ _ (one_memberwise _ k)
  one_initialiser w (search.nothing k) = one_value _
  one_initialiser w (search.local i) = one_value _
  one_initialiser w (search.parameter i) = one_value _
  one_initialiser w (search.language n) = one_value _

  one_call_of : (w : Written) (t : RType) (ls : List Text) → OneAnswer (Searches.IsCallOf s w t ls)
  one_call_of w (ty.Named k) ls = one_initialiser w _
  one_call_of w (ty.Param i) ls = one_value _
  one_call_of w (ty.Assoc i ns) ls = one_value _
  one_call_of w ty.NoValue ls = one_value _

  one_type_use : (ls : Option (List Text)) (o : Option Written) → OneAnswer (Searches.IsTypeUse s ls o)
  one_type_use None (Some w) = one_value _
  one_type_use (Some ls) (Some w) = one_call_of w w.type ls
  one_type_use None None = one_value _
  one_type_use (Some ls) None = one_value _

  one_type_named : (H : Option Written → Type 0) (ls : Option (List Text)) → OneAnswer H → OneAnswer (TypeNamed s H ls)
  one_type_named H ls one r q h k = let same : k.type ≡ h.type = one k.type h.type k.means h.means in one_type_use ls h.type r q h.outcome (subst (λ o. Searches.IsTypeUse s ls o q) same k.outcome)

  one_meant : (n : Text) → OneAnswer (MeansType s n)
  one_meant n = one_or_none _ (one_written _ (λ ks ls t u h k. one_meaning s.world h k))

  one_led : (t : RType) (n : Text) → OneAnswer (LeadsToType s t n)
  one_led t n = one_or_none _ (one_written _ (λ ks ls t u h k. one_meaning s.world h k))

  initialiser_known : (w : Written) (x : search.Found) (n : Named) → Searches.IsInitialiser s w x (Ok n) → KnownNamed n
  initialiser_known w (search.declaration d) n h = given_known (IsFound s [] nothing (Searches.usable_type s w) d) (λ f. Named.new f w) n (λ f h. knows [] nothing _ d f h) h
  initialiser_known w (search.memberwise k) n h = given_known (IsMemberwiseFound s (Searches.usable_type s w) k) (λ f. Named.new f w) n (λ f h. (memberwise_stated _ k f h, tt)) h
  initialiser_known w (search.nothing k) n e = absurd (cc e)
  initialiser_known w (search.local i) n e = absurd (cc e)
  initialiser_known w (search.parameter i) n e = absurd (cc e)
  initialiser_known w (search.language x) n e = absurd (cc e)

  call_of_known : (w : Written) (t : RType) (ls : List Text) (n : Named) → Searches.IsCallOf s w t ls (Ok n) → KnownNamed n
  call_of_known w (ty.Named k) ls n h = initialiser_known w _ n h
  call_of_known w (ty.Param i) ls n e = absurd (cc e)
  call_of_known w (ty.Assoc i ns) ls n e = absurd (cc e)
  call_of_known w ty.NoValue ls n e = absurd (cc e)

  type_use_known : (ls : Option (List Text)) (o : Option Written) (n : Named) → Searches.IsTypeUse s ls o (Ok n) → KnownNamed n
  type_use_known None (Some w) n e = let same : Named.type w (Searches.usable_type s w) ≡ n = cc e in subst KnownNamed same tt
  type_use_known (Some ls) (Some w) n h = call_of_known w w.type ls n h
  type_use_known None None n e = absurd (cc e)
  type_use_known (Some ls) None n e = absurd (cc e)

  type_named_known : (H : Option Written → Type 0) (ls : Option (List Text)) (n : Named) → TypeNamed s H ls (Ok n) → KnownNamed n
  type_named_known H ls n h = type_use_known ls h.type n h.outcome

  -- ---- cases and static functions

  one_case_by : (o : Option FaultKind) (d : Declaration) → OneAnswer (Searches.IsCaseBy o s d)
  one_case_by None d = one_given _ _ (one_found [] nothing nothing true d)
  one_case_by (Some k) d = one_value _

  case_known : (o : Option FaultKind) (d : Declaration) (n : Named) → Searches.IsCaseBy o s d (Ok n) → KnownNamed n
  case_known None d n h = given_known (IsFound s [] nothing true d) Named.case n (λ f h. knows [] nothing true d f h) h
  case_known (Some k) d n e = absurd (cc e)

  one_free : (ts : List RType) (d : Declaration) → OneAnswer (Searches.IsFree s ts d)
  one_free ts d = one_given _ _ (one_found ts nothing nothing true d)

  free_known : (ts : List RType) (d : Declaration) (n : Named) → Searches.IsFree s ts d (Ok n) → KnownNamed n
  free_known ts d n h = given_known (IsFound s ts nothing true d) Named.free n (λ f h. knows ts nothing true d f h) h

  -- ---- behind the name of a type, and where one is expected

  one_inner_by : (t : RType) (n : Text) (ls : Option (List Text)) (d : Declaration) (x : Sort) → OneAnswer (Searches.IsInnerBy s t n ls d x)
  one_inner_by t n ls d sort.Function = one_free (t ∷ []) d
  one_inner_by t n ls d sort.Case = one_case_by _ d
  one_inner_by t n ls d sort.Alias = one_type_named _ ls (one_led t n)
  one_inner_by t n ls d sort.Initialiser = one_value _
  one_inner_by t n ls d sort.Property = one_value _
  one_inner_by t n ls d sort.Type = one_value _

  one_inner : (t : RType) (n : Text) (ls : Option (List Text)) (x : search.Found) → OneAnswer (Searches.IsInner s t n ls x)
  one_inner t n ls (search.declaration d) = one_inner_by t n ls d _
  one_inner t n ls (search.nothing k) = one_value _
  one_inner t n ls (search.local i) = one_value _
  one_inner t n ls (search.parameter i) = one_value _
  one_inner t n ls (search.memberwise k) = one_value _
  one_inner t n ls (search.language x) = one_value _

  one_inner_in : (t : RType) (c : search.Receiver) (n : Text) (ls : Option (List Text)) → OneAnswer (Searches.IsInnerOf s t c n ls)
  one_inner_in (ty.Assoc i ns) c n None = one_type_named _ None (one_led (ty.Assoc i ns) n)
  one_inner_in (ty.Assoc i ns) c n (Some ls) = one_value _
  one_inner_in (ty.Named k) c n ls = one_inner (ty.Named k) n ls _
  one_inner_in (ty.Param i) c n ls = one_inner (ty.Param i) n ls _
  one_inner_in ty.NoValue c n ls = one_inner ty.NoValue n ls _

  one_inner_of : (t : RTypeName) (n : Text) (ls : Option (List Text)) → OneAnswer (Searches.InnerOf s t n ls)
  one_inner_of t n ls r q h k =
      let same : k.type ≡ h.type = one_canonical s.signature.requirements t.ty t.ty k.type h.type equality.same k.canonical h.canonical in
      let receiver : k.receiver ≡ h.receiver = one_receiver h.type k.receiver h.receiver (subst (λ t. IsReceiver s t k.receiver) same k.is) h.is in
      one_inner_in h.type h.receiver n ls r q h.outcome (subst (λ c. Searches.IsInnerOf s h.type c n ls q) receiver (subst (λ t. Searches.IsInnerOf s t k.receiver n ls q) same k.outcome))

  inner_by_known : (t : RType) (n : Text) (ls : Option (List Text)) (d : Declaration) (x : Sort) (m : Named) → Searches.IsInnerBy s t n ls d x (Ok m) → KnownNamed m
  inner_by_known t n ls d sort.Function m h = free_known (t ∷ []) d m h
  inner_by_known t n ls d sort.Case m h = case_known _ d m h
  inner_by_known t n ls d sort.Alias m h = type_named_known _ ls m h
  inner_by_known t n ls d sort.Initialiser m e = absurd (cc e)
  inner_by_known t n ls d sort.Property m e = absurd (cc e)
  inner_by_known t n ls d sort.Type m e = absurd (cc e)

  inner_known : (t : RType) (n : Text) (ls : Option (List Text)) (x : search.Found) (m : Named) → Searches.IsInner s t n ls x (Ok m) → KnownNamed m
  inner_known t n ls (search.declaration d) m h = inner_by_known t n ls d _ m h
  inner_known t n ls (search.nothing k) m e = absurd (cc e)
  inner_known t n ls (search.local i) m e = absurd (cc e)
  inner_known t n ls (search.parameter i) m e = absurd (cc e)
  inner_known t n ls (search.memberwise k) m e = absurd (cc e)
  inner_known t n ls (search.language x) m e = absurd (cc e)

  inner_in_known : (t : RType) (c : search.Receiver) (n : Text) (ls : Option (List Text)) (m : Named) → Searches.IsInnerOf s t c n ls (Ok m) → KnownNamed m
  inner_in_known (ty.Assoc i ns) c n None m h = type_named_known _ None m h
  inner_in_known (ty.Assoc i ns) c n (Some ls) m e = absurd (cc e)
  inner_in_known (ty.Named k) c n ls m h = inner_known (ty.Named k) n ls _ m h
  inner_in_known (ty.Param i) c n ls m h = inner_known (ty.Param i) n ls _ m h
  inner_in_known ty.NoValue c n ls m h = inner_known ty.NoValue n ls _ m h

  one_implicit_by : (t : RType) (ls : Option (List Text)) (d : Declaration) (x : Sort) → OneAnswer (Searches.IsImplicitBy s t ls d x)
  one_implicit_by t ls d sort.Function = one_free (t ∷ []) d
  one_implicit_by t ls d sort.Case = one_case_by _ d
  one_implicit_by t ls d sort.Alias = one_value _
  one_implicit_by t ls d sort.Initialiser = one_value _
  one_implicit_by t ls d sort.Property = one_value _
  one_implicit_by t ls d sort.Type = one_value _

  one_implicit : (t : RType) (ls : Option (List Text)) (x : search.Found) → OneAnswer (Searches.IsImplicit s t ls x)
  one_implicit t ls (search.declaration d) = one_implicit_by t ls d _
  one_implicit t ls (search.nothing k) = one_value _
  one_implicit t ls (search.local i) = one_value _
  one_implicit t ls (search.parameter i) = one_value _
  one_implicit t ls (search.memberwise k) = one_value _
  one_implicit t ls (search.language x) = one_value _

  one_implicit_of : (t : RType) (n : Text) (ls : Option (List Text)) → OneAnswer (Searches.ImplicitOf s t n ls)
  one_implicit_of t n ls r q h k =
      let same : k.receiver ≡ h.receiver = one_receiver t k.receiver h.receiver k.is h.is in
      one_implicit t ls _ r q h.outcome (subst (λ c. Searches.IsImplicit s t ls (search.member s.world (viewpoint s) c (Searches.sought n ls true)) q) same k.outcome)

  implicit_by_known : (t : RType) (ls : Option (List Text)) (d : Declaration) (x : Sort) (m : Named) → Searches.IsImplicitBy s t ls d x (Ok m) → KnownNamed m
  implicit_by_known t ls d sort.Function m h = free_known (t ∷ []) d m h
  implicit_by_known t ls d sort.Case m h = case_known _ d m h
  implicit_by_known t ls d sort.Alias m e = absurd (cc e)
  implicit_by_known t ls d sort.Initialiser m e = absurd (cc e)
  implicit_by_known t ls d sort.Property m e = absurd (cc e)
  implicit_by_known t ls d sort.Type m e = absurd (cc e)

  implicit_known : (t : RType) (ls : Option (List Text)) (x : search.Found) (m : Named) → Searches.IsImplicit s t ls x (Ok m) → KnownNamed m
  implicit_known t ls (search.declaration d) m h = implicit_by_known t ls d _ m h
  implicit_known t ls (search.nothing k) m e = absurd (cc e)
  implicit_known t ls (search.local i) m e = absurd (cc e)
  implicit_known t ls (search.parameter i) m e = absurd (cc e)
  implicit_known t ls (search.memberwise k) m e = absurd (cc e)
  implicit_known t ls (search.language x) m e = absurd (cc e)

  -- ---- names that stand alone

  one_own : (t : Option RType) (d : Declaration) → OneAnswer (Searches.IsOwnOf s t d)
  one_own None d = one_value _
  one_own (Some v) d = one_given _ _ (one_found (v ∷ []) (before v) (before v) true d)

  one_function : (t : Bool) (d : Declaration) → OneAnswer (Searches.IsFunctionBy t s d)
  one_function true d = one_alone _ (one_free _ d)
  one_function false d = one_own _ d

  one_nominal : (t : Bool) (n : Text) (ls : Option (List Text)) → OneAnswer (Searches.IsNominalBy t s n ls)
  one_nominal true n ls = one_value _
  one_nominal false n ls = one_alone _ (one_type_named _ ls (one_meant n))

  one_name_by : (n : Text) (ls : Option (List Text)) (d : Declaration) (x : Sort) → OneAnswer (Searches.IsNameBy s n ls d x)
  one_name_by n ls d sort.Function = one_function _ d
  one_name_by n ls d sort.Property = one_own _ d
  one_name_by n ls d sort.Case = one_alone _ (one_case_by _ d)
  one_name_by n ls d sort.Type = one_nominal _ n ls
  one_name_by n ls d sort.Alias = one_alone _ (one_type_named _ ls (one_meant n))
  one_name_by n ls d sort.Initialiser = one_value _

  one_language : (t : Bool) (n : Text) (ls : Option (List Text)) → OneAnswer (Searches.IsLanguageBy t s n ls)
  one_language true n ls = one_alone _ (one_type_named _ ls (one_meant n))
  one_language false n ls = one_value _

  one_local : (i : ℕ) → OneAnswer (Searches.IsLocal s i)
  one_local i = one_given _ _ (λ l m h k. (let e : Some l ≡ Some m = sym h.0 ∙ k.0 in cc e))

  one_name : (n : Text) (ls : Option (List Text)) (x : search.Found) → OneAnswer (Searches.IsName s n ls x)
  one_name n ls (search.local i) = one_local i
  one_name n ls (search.parameter i) = one_alone _ (one_type_named _ ls (one_meant n))
  one_name n ls (search.declaration d) = one_name_by n ls d _
  one_name n ls (search.language x) = one_language (is_language_type x) n ls
  one_name n ls (search.nothing k) = one_value _
  one_name n ls (search.memberwise k) = one_value _

  one_round : (t : Option RType) → OneAnswer (Searches.RoundReceiver s t)
  one_round None c d h k = h ∙ sym k
  one_round (Some t) (Some c) (Some d) h k = ap Some (one_receiver t c d h k)
  one_round (Some t) (Some c) None h k = absurd k
  one_round (Some t) None d h k = absurd h

  one_name_of : (n : Text) (ls : Option (List Text)) → OneAnswer (Searches.NameOf s n ls)
  one_name_of n ls r q h k =
      let same : k.receiver ≡ h.receiver = one_round s.around k.receiver h.receiver k.is h.is in
      one_name n ls (search.meaning (Searches.here s h.receiver) (Searches.sought n ls (in_static s))) r q h.outcome (subst (λ c. Searches.IsName s n ls (search.meaning (Searches.here s c) (Searches.sought n ls (in_static s))) q) same k.outcome)

  abbrev KnownMeaning : Meaning → Type 0
  KnownMeaning (Meaning.local l) = slice_get s.types l.number ≡ Some l.type
  KnownMeaning (Meaning.own f) = (v : RType) → self_of s ≡ Some v → KnownFound (before v) f
  KnownMeaning (Meaning.named n) = KnownNamed n
  KnownMeaning (Meaning.builtin b) = Unit {0}

  alone_known : (H : Result Named FaultKind → Type 0) (m : Meaning) → ((n : Named) → H (Ok n) → KnownNamed n) → Alone H (Ok m) → KnownMeaning m
  alone_known H m known (Ok n, h, e) = let same : Meaning.named n ≡ m = cc e in subst KnownMeaning same (known n h)
  alone_known H m known (Err k, h, e) = absurd (cc e)

  own_known : (t : Option RType) (d : Declaration) (m : Meaning) → t ≡ self_of s → Searches.IsOwnOf s t d (Ok m) → KnownMeaning m
  own_known None d m is e = absurd (cc e)
  own_known (Some v) d m is (f, h, e) =
      let same : Meaning.own f ≡ m = cc e in
      subst KnownMeaning same (λ w j. (let u : v ≡ w = (let e : Some v ≡ Some w = is ∙ j in cc e) in subst (λ w. KnownFound (before w) f) u (knows (v ∷ []) (before v) true d f h)))

  function_known : (t : Bool) (d : Declaration) (m : Meaning) → Searches.IsFunctionBy t s d (Ok m) → KnownMeaning m
  function_known true d m h = alone_known _ m (λ n h. free_known _ d n h) h
  function_known false d m h = own_known (self_of s) d m refl h

  nominal_known : (t : Bool) (n : Text) (ls : Option (List Text)) (m : Meaning) → Searches.IsNominalBy t s n ls (Ok m) → KnownMeaning m
  nominal_known true n ls m e = absurd (cc e)
  nominal_known false n ls m h = alone_known _ m (λ n h. type_named_known _ ls n h) h

  name_by_known : (n : Text) (ls : Option (List Text)) (d : Declaration) (x : Sort) (m : Meaning) → Searches.IsNameBy s n ls d x (Ok m) → KnownMeaning m
  name_by_known n ls d sort.Function m h = function_known _ d m h
  name_by_known n ls d sort.Property m h = own_known (self_of s) d m refl h
  name_by_known n ls d sort.Case m h = alone_known _ m (λ n h. case_known _ d n h) h
  name_by_known n ls d sort.Type m h = nominal_known _ n ls m h
  name_by_known n ls d sort.Alias m h = alone_known _ m (λ n h. type_named_known _ ls n h) h
  name_by_known n ls d sort.Initialiser m e = absurd (cc e)

  builtin_known : (r : Result Meaning FaultKind) (ls : Option (List Text)) (b : Rattle.evo_resolved.specs.declared.expression.Builtin.Builtin) (m : Meaning) → r ≡ Searches.called_builtin b ls → r ≡ Ok m → KnownMeaning m
  builtin_known r None b m e f = absurd (cc (e, f))
  builtin_known r (Some ls) b m e f = go (Searches.builtin_fits b ls) (sym f ∙ e)
    where
      go : (t : Bool) → Ok m ≡ Rattle.std.proofs.Common.cond t (Ok (Meaning.builtin b)) (Err Rattle.evo_base.specs.declared.fault_kind.FaultKind.TheVariants.WrongLabels) → KnownMeaning m
      go true e = let same : Meaning.builtin b ≡ m = cc e in subst KnownMeaning same tt
      go false e = absurd (cc e)

  language_known : (t : Bool) (n : Text) (ls : Option (List Text)) (m : Meaning) → Searches.IsLanguageBy t s n ls (Ok m) → KnownMeaning m
  language_known true n ls m h = alone_known _ m (λ n h. type_named_known _ ls n h) h
  language_known false n ls m e = builtin_known (Ok m) ls (Searches.language_function n) m e refl

  name_known : (n : Text) (ls : Option (List Text)) (x : search.Found) (m : Meaning) → Searches.IsName s n ls x (Ok m) → KnownMeaning m
  name_known n ls (search.local i) m (l, h, e) = let same : Meaning.local l ≡ m = cc e in subst KnownMeaning same h.1
  name_known n ls (search.parameter i) m h = alone_known _ m (λ n h. type_named_known _ ls n h) h
  name_known n ls (search.declaration d) m h = name_by_known n ls d _ m h
  name_known n ls (search.language x) m h = language_known (is_language_type x) n ls m h
  name_known n ls (search.nothing k) m e = absurd (cc e)
  name_known n ls (search.memberwise k) m e = absurd (cc e)

  -- ---- types, paths

  one_path : (t : RType) (p : Key) → OneAnswer (λ o. PathOrNone (goal_of s.signature s.declarations t p) o)
  one_path t p (Some x) (Some y) h k = ap Some (one_first_path (goal_of s.signature s.declarations t p) x y h k)
  one_path t p (Some x) None h k = absurd (k h.route x h.way)
  one_path t p None (Some y) h k = absurd (h k.route y k.way)
  one_path t p None None h k = refl

-- what is found where an expression stands is what its key stands for
pub known_at : (s : Site) → Facts s → Known (env_at s)
unfolding env_at
known_at s facts = record {
  one = record {
    name = one_name_of s facts;
    member = one_member_of s facts;
    inner = one_inner_of s facts;
    implicit = one_implicit_of s facts;
    upper = one_upper s facts (self_of s);
    shape = λ k. one_or_none (Stated s.world k) (facts.one_declaration k);
    stands = λ sig ts t. one_or_none _ (facts.one_type sig ts t);
    path = one_path s facts;
    declared = facts.one_declaration;
    declared_type = facts.one_type;
  };
  name = λ n ls m h. (name_known s facts n ls (search.meaning (Searches.here s h.receiver) (Searches.sought n ls (in_static s))) m h.outcome);
  member = λ v n ls f h. member_known s facts v (search.member s.world (viewpoint s) h.receiver (Searches.sought n ls false)) f h.outcome;
  inner = λ t n ls m h. (inner_in_known s facts h.type h.receiver n ls m h.outcome);
  implicit = λ t n ls m h. (implicit_known s facts t ls (search.member s.world (viewpoint s) h.receiver (Searches.sought n ls true)) m h.outcome);
  upper = λ n ls f v is h. upper_known s facts (self_of s) n ls f v is h;
  shape = λ k t h. h;
  stands = λ sig ts t u h. h;
  path = λ t p q h. (h.route, h.way);
}
