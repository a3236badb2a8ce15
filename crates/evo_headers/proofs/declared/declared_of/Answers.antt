use Rattle.evo_headers.proofs.declared.declared_of.Goals as goal

pub returns-in-Err-Unknown : goal.returns-in-Err-Unknown
returns-in-Err-Unknown c = rw c.in-Err-Unknown.field-0-is at c.in-Err-Unknown.ensures
