-- Each reader of a kind without blocks reads its rule.
use Rattle.std.proofs.Common.{[], ◌∷◌, Some, None, refl}
use Rattle.evo_base.specs.declared.place.Place.{Place}
use Rattle.evo_tree.specs.declared.statement.Introducer.TheVariants as introducer
use Rattle.evo_tree.specs.declared.declaration.Accessors.TheVariants as accessors
use Rattle.evo_tree.specs.declared.declaration.DeclKind.TheVariants as k
use Rattle.evo_tree.specs.declared.terminal.Terminal.TheVariants as t
use Rattle.evo_tree.specs.Declarations as grammar
use Rattle.evo_tree.specs.Declarations.{one_kind}
use Rattle.evo_parse_decl.specs.Read as read
use Rattle.evo_parse_header.proofs.Sets.{Set, these, but, Ends}
use Rattle.evo_parse_header.proofs.Parses.{Parses, parses_pure, parses_before, parses_then, parses_map, parses_alt, parses_led}
use Rattle.evo_parse_header.proofs.Tests.{mark_test, identifier_test}
use Rattle.evo_parse_header.proofs.Productions.{parses_type, parses_conforming}
use Rattle.evo_tree.specs.Terminals.{number_of}

-- one token
abbrev Anything : Set
Anything = but []

pub parses_let : (p : Place) → Parses (these (number_of t.Identifier ∷ [])) Ends (λ _. grammar.LetTail p) (λ _. read.rest_of_let p)
unfolding read.rest_of_let
parses_let p = parses_led refl refl refl identifier_test (λ n. parses_led {F = Anything} refl refl refl (mark_test t.Colon) (λ _. parses_before refl refl (parses_map (λ type. one_kind p (k.Property introducer.Let n type accessors.Stored)) parses_type)))

pub parses_alias : (p : Place) → Parses (these (number_of t.Identifier ∷ [])) Ends (λ _. grammar.AliasTail p) (λ _. read.rest_of_alias p)
unfolding read.rest_of_alias
parses_alias p = parses_led refl refl refl identifier_test (λ n. parses_led {F = Anything} refl refl refl (mark_test t.Equal) (λ _. parses_before refl refl (parses_map (λ type. one_kind p (k.TypeAlias n type)) parses_type)))

pub parses_default : Parses (but (number_of t.Dot ∷ number_of t.And ∷ number_of t.Colon ∷ [])) Ends (λ _. grammar.Default) (λ _. read.default)
unfolding read.default
parses_default = parses_alt refl refl refl refl (mark_test t.Equal) (λ _. parses_before refl refl (parses_map (λ type. Some type) parses_type)) (parses_pure refl None).chooses

pub parses_associated : (p : Place) → Parses (these (number_of t.Identifier ∷ [])) Ends (λ _. grammar.AssociatedTail p) (λ _. read.rest_of_associated p)
unfolding read.rest_of_associated
parses_associated p = parses_led refl refl refl identifier_test (λ n. parses_then refl parses_conforming (λ ps. parses_map (λ type. one_kind p (k.AssociatedType n ps type)) parses_default))
