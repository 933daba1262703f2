-- The bytes of two tallies side by side: those of the first, then those of the second.
use Rattle.std.specs.Prelude.{◌+◌, ◌++◌, take, drop}
use Rattle.tallies.specs.declared.pair.Pair.{Pair}
use Rattle.stored.specs.Forms.{TallyForm}

abbrev pub pair_form : {A B : Type 0} → TallyForm A → TallyForm B → TallyForm (Pair A B)
pair_form a b = record {
  size = a.size + b.size;
  written = λ t. a.written t.first ++ b.written t.second;
  read = λ bytes. record { first = a.read (take a.size bytes); second = b.read (drop a.size bytes) };
}
