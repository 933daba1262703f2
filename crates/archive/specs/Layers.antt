-- The word of each layer, and a fault as it is told.
use Rattle.std.specs.Prelude.{ℕ, List, ◌++◌, codes, decimal}
use Rattle.keys.specs.Refusals.{refusal_number}
use Rattle.archive.specs.declared.fault.Fault.{Fault}
use Rattle.archive.specs.declared.layer.Layer.{Layer}
use Rattle.archive.specs.declared.layer.Layer.TheVariants.{Header, Requests, Answers}

abbrev pub layer_word : Layer → List ℕ
layer_word Header = codes "header"
layer_word Requests = codes "requests"
layer_word Answers = codes "answers"

-- number, layer, row and offset
abbrev pub fault_told : Fault → List ℕ
fault_told f =
    codes "fault " ++ (decimal (refusal_number f.refusal) ++ (codes " " ++ (layer_word f.layer ++ (codes " row " ++ (decimal f.row ++ (codes " offset " ++ decimal f.offset))))))
