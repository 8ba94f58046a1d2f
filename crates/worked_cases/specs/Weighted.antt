-- Worked cases of REQUIREMENTS, "Weights for each carrier": lines of kinds with 80 hexadecimal added, in which each symbol has a weight of its own, and their answers.
-- Each row has what the definitions give, by which the calls promise, and what the requirements say. The rows are shown equal in proofs/Weighted. Assumes nothing.
use Rattle.std.specs.Prelude.{List, [], ◌∷◌}
use Rattle.worked_cases.specs.Cases.{Case, case, naturals, line, answer_to}

-- QAM: one symbol with weight 1, which is the worked line with that weight; and two symbols with weights 3 and 7. PSK with weight 2, whose differences are
-- multiplied before they are rounded. Refused are a header weight that is not 0, and a symbol's weight that is 0.
unfoldable pub weighted_lines : List Case
weighted_lines =
    case (answer_to (line 44 0x81020200030000027FFF0005000100000003FFFFFFEC)) (naturals (line 18 0x000006FFF1FFDD0096))
    ∷ case (answer_to (line 68 0x81020200060000027FFF0005000300000003FFFFFFEC0005000700000003FFFFFFEC)) (naturals (line 30 0x00000CFFD3FF9701C20096FF97FF0B))
    ∷ case (answer_to (line 44 0x82020000020000007FFF000100020000000100000002)) (naturals (line 14 0x000003000B0006))
    ∷ case (answer_to (line 44 0x81020200030001027FFF0005000100000003FFFFFFEC)) (naturals (line 2 0x12))
    ∷ case (answer_to (line 44 0x81020200030000027FFF0005000000000003FFFFFFEC)) (naturals (line 2 0x07))
    ∷ []
