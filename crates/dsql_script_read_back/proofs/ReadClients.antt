-- Proves that `c` and the number that a report shows for a client are read as this client. The argument reads
-- the number back from its digits.
use Rattle.std.proofs.Common.{◌≡◌, ℕ, zero, suc, ◌<◌, ◌≤◌, ◌^◌, ◌++◌, true, codes, decimal, Some, refl, ◌∙◌, arith}
use Rattle.std.proofs.lemmas.Fmt.{decimal_nonempty, digits_decimal, digits_value-decimal, first_decimal, decimal_digit}
use Rattle.serde_json.specs.Written.{compact_text}
use Rattle.dsql_script_spelling.specs.LineValues.{natural}
use Rattle.dsql_script_calls.specs.ScriptWords.{is_number, client_of, most_clients}
use Rattle.dsql_script_calls.proofs.ScriptClients.{own, number_from_digits, client_up_to, client_up_to_within}

pub decimal_is_number : (n : ℕ) → n < 2 ^ 64 → is_number (decimal n) ≡ true
decimal_is_number zero small = rw (decimal_digit 0 (omega arith)) refl
decimal_is_number (suc n) small =
    let first = first_decimal (suc n) (omega arith) small in
    number_from_digits (decimal (suc n)) (λ e. absurd (omega arith)) (digits_decimal own (suc n) small) (decimal_nonempty (suc n) small)

pub client_is_read_back : (client : ℕ) → 1 ≤ client → client ≤ most_clients → client_of (codes "c" ++ compact_text (natural client)) ≡ Some client
client_is_read_back client some few =
    let small : client < 2 ^ 64 = omega arith in
    let number : client_of (codes "c" ++ compact_text (natural client)) ≡ client_up_to client = rw (decimal_is_number client small, digits_value-decimal own client small) refl in
    number ∙ client_up_to_within client some few
