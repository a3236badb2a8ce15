use Rattle.std.proofs.Common.{rules, arith, ◌≡◌, ◌<◌, ◌∙◌, refl, sym, subst, List, [], ◌∷◌, length, ℕ, Option}
use Rattle.std.proofs.lemmas.List.{nil_from_length}
use Rattle.std.proofs.lemmas.Result.{err_from_is_err_and}
use Rattle.evo_driver.specs.declared.stop.Refusal.{Refusal}
use Rattle.evo_driver.specs.declared.stop.Input.TheVariants as which
use Rattle.evo_driver.specs.Files.{Holds, HoldsLibrary, IsWrongLibrary}
use Rattle.evo_driver.specs.Files.Refuses.{old_is_wrong, new_is_wrong}
use Rattle.evo_driver.proofs.Loads.{stops_at, broken_names, keeps_of}
use Rattle.evo_driver.proofs.load.load_libraries.Goals as goal

not_nil : (names : List (List ℕ)) → 0 < length names → names ≡ [] → ⊥
not_nil [] lt e = absurd (omega arith)
not_nil (n ∷ ns) lt e = absurd cc

pub returns-in_err-old-clause-loads : goal.returns-in_err-old-clause-loads
returns-in_err-old-clause-loads g c =
    let p = err_from_is_err_and c.from_residual.result c.from_residual.ensures.1 in
    let files = g.F.Files.state c.args.files.now in
    let library = c.args.job.now.library in
    rw (p.1, p.2) (stops_at (λ (why : Refusal). Holds (files.held c.args.job.now.old) (IsWrongLibrary library why)) c.args.job.now which.Old files files (g.F.Files.state c.get_library.new.files)
    refl tt (λ h. h) (λ why wrong. old_is_wrong why wrong) c.in_err-old.field-0.0 c.in_err-old.ensures.reads)

pub returns-in_err-new-clause-loads : goal.returns-in_err-new-clause-loads
returns-in_err-new-clause-loads g c =
    let p = err_from_is_err_and c.from_residual-in_err-new.result c.from_residual-in_err-new.ensures.1 in
    let a = c.in_ok-old.ensures in
    let files = g.F.Files.state c.args.files.now in
    let later = g.F.Files.state c.get_library.new.files in
    let library = c.args.job.now.library in
    rw (p.1, p.2) (stops_at (λ (why : Refusal). Holds (later.held c.args.job.now.new) (IsWrongLibrary library why)) c.args.job.now which.New files later (g.F.Files.state c.get_library-2.new.files)
    a.reads.0 (c.in_ok-old.old.functions, a.reads.1.holds) (a.sure.0 c.args.job.now.new)
    (λ why wrong. new_is_wrong why c.in_ok-old.old.functions a.reads.1.holds (subst (λ (h : Option (List ℕ)). Holds h (IsWrongLibrary library why)) (a.same c.args.job.now.new) wrong))
    c.in_err-new.field-0.0 c.in_err-new.ensures.reads)

pub returns-then-not-is_empty-clause-loads : goal.returns-then-not-is_empty-clause-loads
returns-then-not-is_empty-clause-loads g c =
    let a = c.in_ok-old.ensures in
    let b = c.in_ok-new.ensures in (
      b.reads.0 ∙ a.reads.0,
      broken_names (g.F.Files.state c.args.files.now).held c.args.job.now c.in_ok-old.old.functions c.in_ok-new.new.functions _ _ c.from_vec.result
          (record {
            old_holds = a.reads.1.holds;
            new_holds = subst (λ (h : Option (List ℕ)). HoldsLibrary h c.args.job.now.library c.in_ok-new.new.functions) (a.same c.args.job.now.new) b.reads.1.holds;
          })
          a.reads.1.interface_is b.reads.1.interface_is (c.from_vec.ensures ∙ c.in_ok-removed.ensures) (λ e. not_nil c.in_ok-removed.removed.items (search rules) (sym c.from_vec.ensures ∙ e)),
    )

pub returns-clause-loads : goal.returns-clause-loads
returns-clause-loads g c =
    let a = c.in_ok-old.ensures in
    let b = c.in_ok-new.ensures in (
      b.reads.0 ∙ a.reads.0,
      record {
        old = c.in_ok-old.old.functions;
        passes = record {
          both = record {
            old_holds = a.reads.1.holds;
            new_holds = subst (λ (h : Option (List ℕ)). HoldsLibrary h c.args.job.now.library c.in_ok-new.new.functions) (a.same c.args.job.now.new) b.reads.1.holds;
          };
          keeps = keeps_of _ _ _ _ a.reads.1.interface_is b.reads.1.interface_is (sym c.in_ok-removed.ensures ∙ nil_from_length c.in_ok-removed.removed.items (search rules));
        };
        interface_is = a.reads.1.interface_is;
        accepted = a.reads.1.accepted;
      },
    )
