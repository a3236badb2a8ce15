-- Headings, and the parts of which they are made.
use Rattle.std.proofs.Common.{◌≡◌, ℕ, List, ◌∷◌, ◌++◌, codes, inl, inr, refl, sym, ◌∙◌, ap, subst, append_assoc}
use Rattle.std.specs.Char.{is_ascii_digit}
use Rattle.std.specs.List.{prefix_len}
use Rattle.std.specs.Fmt.{decimal}
use Rattle.evo_base.specs.declared.place.Release.{Release}
use Rattle.evo_tree.specs.Modules.{IsLineEnd, IsHeading}
use Rattle.evo_heading.specs.declared.parts.TheConstants.{FORMAT, BEFORE_NAME}
use Rattle.evo_heading.specs.Heading.{IsEnded, IsOpened, IsNamed, IsReleased}
use Rattle.evo_heading.proofs.Fronts.{opened_once}
use Rattle.evo_heading.proofs.Names.{named_once}
use Rattle.evo_heading.proofs.Numbers.{released_once}

-- pieces one behind another
nine : (a b c d e f g h i rest : List ℕ) → a ++ b ++ c ++ d ++ e ++ f ++ g ++ h ++ i ++ rest ≡ a ++ (b ++ (c ++ (d ++ (e ++ (f ++ (g ++ (h ++ (i ++ rest))))))))
nine a b c d e f g h i rest = simp append_assoc

-- a line's end begins with no digit
end_stops : (end rest : List ℕ) → IsLineEnd end → prefix_len is_ascii_digit (end ++ rest) ≡ 0
end_stops end rest (inl is) = rw is refl
end_stops end rest (inr is) = rw is refl

-- the parts of a heading
pub record IsMade (text name : List ℕ) (release : Release) : Type 0 where
  pub first : List ℕ
  pub second : List ℕ
  pub third : List ℕ
  pub rest : List ℕ
  pub opened : IsOpened FORMAT.now BEFORE_NAME.now text first
  pub named : IsNamed first name second
  pub released : IsReleased second release third
  pub ended : IsEnded third rest

-- a heading is made of these parts
pub made : (text name : List ℕ) (release : Release) → IsHeading text name release → IsMade text name release
made text name release is = record {
  first = name ++ 32 ∷ (decimal release.major ++ 46 ∷ (decimal release.minor ++ (is.second_end ++ is.rest)));
  second = decimal release.major ++ 46 ∷ (decimal release.minor ++ (is.second_end ++ is.rest));
  third = is.second_end ++ is.rest;
  rest = is.rest;
  opened = record {
    behind = is.first_end ++ (BEFORE_NAME.now ++ (name ++ 32 ∷ (decimal release.major ++ 46 ∷ (decimal release.minor ++ (is.second_end ++ is.rest)))));
    whole = is.lines ∙ nine FORMAT.now is.first_end BEFORE_NAME.now name (codes " ") (decimal release.major) (codes ".") (decimal release.minor) is.second_end is.rest;
    ended = record { end = is.first_end; ends = is.ends; whole = refl };
  };
  named = record { utf8 = is.utf8; is = is.name_is; whole = refl };
  released = record {
    behind = decimal release.minor ++ (is.second_end ++ is.rest);
    major = record { small = is.major; whole = refl; apart = refl };
    minor = record { small = is.minor; whole = refl; apart = end_stops is.second_end is.rest is.ends_again };
  };
  ended = record { end = is.second_end; ends = is.ends_again; whole = refl };
}

-- these parts make a heading
pub heading_of : (text name : List ℕ) (release : Release) (first second third rest : List ℕ) → IsOpened FORMAT.now BEFORE_NAME.now text first → IsNamed first name second → IsReleased second release third → IsEnded third rest
    → IsHeading text name release
heading_of text name release first second third rest opened named released ended = record {
  utf8 = named.utf8;
  name_is = named.is;
  major = released.major.small;
  minor = released.minor.small;
  first_end = opened.ended.end;
  second_end = ended.end;
  rest = rest;
  ends = opened.ended.ends;
  ends_again = ended.ends;
  lines = opened.whole ∙ ap (λ (l : List ℕ). FORMAT.now ++ l) (opened.ended.whole
      ∙ ap (λ (l : List ℕ). opened.ended.end ++ (BEFORE_NAME.now ++ l)) (named.whole
      ∙ ap (λ (l : List ℕ). name ++ 32 ∷ l) (released.major.whole
      ∙ ap (λ (l : List ℕ). decimal release.major ++ 46 ∷ l) (released.minor.whole
      ∙ ap (λ (l : List ℕ). decimal release.minor ++ l) ended.whole))))
      ∙ sym (nine FORMAT.now opened.ended.end BEFORE_NAME.now name (codes " ") (decimal release.major) (codes ".") (decimal release.minor) ended.end rest);
}

-- ---- a text that begins with some of the parts

module _ (text first : List ℕ) (opened : IsOpened FORMAT.now BEFORE_NAME.now text first) where
  named_in : (name : List ℕ) (release : Release) (is : IsMade text name release) → IsNamed first name is.second
  named_in name release is = subst (λ (l : List ℕ). IsNamed l name is.second) (opened_once FORMAT.now BEFORE_NAME.now text is.first first is.opened opened) is.named

  pub no_name : ((name rest : List ℕ) → IsNamed first name rest → ⊥) → (name : List ℕ) (release : Release) → IsHeading text name release → ⊥
  no_name none name release is = let parts = made text name release is in none name parts.second (named_in name release parts)

  module _ (module_name second : List ℕ) (named : IsNamed first module_name second) where
    released_in : (name : List ℕ) (release : Release) (is : IsMade text name release) → IsReleased second release is.third
    released_in name release is = subst (λ (l : List ℕ). IsReleased l release is.third) (named_once first name module_name is.second second (named_in name release is) named).1 is.released

    pub no_release : ((release : Release) (rest : List ℕ) → IsReleased second release rest → ⊥) → (name : List ℕ) (release : Release) → IsHeading text name release → ⊥
    no_release none name release is = let parts = made text name release is in none release parts.third (released_in name release parts)

    pub no_line_end : (r : Release) (third : List ℕ) → IsReleased second r third → ((rest : List ℕ) → IsEnded third rest → ⊥) → (name : List ℕ) (release : Release) → IsHeading text name release → ⊥
    no_line_end r third released none name release is =
        let parts = made text name release is in
        none parts.rest (subst (λ (l : List ℕ). IsEnded l parts.rest) (released_once second release r parts.third third (released_in name release parts) released).1 parts.ended)

pub no_opening : (text : List ℕ) → ((rest : List ℕ) → IsOpened FORMAT.now BEFORE_NAME.now text rest → ⊥) → (name : List ℕ) (release : Release) → IsHeading text name release → ⊥
no_opening text none name release is = let parts = made text name release is in none parts.first parts.opened

-- a text begins with one heading
pub headed_once : (text a b : List ℕ) (r s : Release) → IsHeading text a r → IsHeading text b s → (a ≡ b) × (r ≡ s)
headed_once text a b r s of_a of_b =
    let x = made text a r of_a in
    let y = made text b s of_b in
    let named = named_in text y.first y.opened a r x in
    let released = released_in text y.first y.opened b y.second y.named a r x in
    ((named_once y.first a b x.second y.second named y.named).0, (released_once y.second r s x.third y.third released y.released).0)
