use Rattle.evo_round_trip.proofs.RoundTrip.{canonical_text_is_read_again}
use Rattle.evo_round_trip.proofs.laws.canonical_text_is_read_again.Goals as goal

pub returns : goal.returns
returns c = canonical_text_is_read_again
