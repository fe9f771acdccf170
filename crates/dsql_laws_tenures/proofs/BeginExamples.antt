-- The worked tenures that begin a transaction or test its connection are as their specs say.
use Rattle.std.proofs.Common.{true, refl}
use native.Mathlib.Omega.{arith}
use Rattle.dsql_history.specs.journal.Samples.{begin}
use Rattle.dsql_laws_tenures.specs.Begins.{IsLentTo}
use Rattle.dsql_laws_tenures.specs.Worked.{able}
use Rattle.dsql_laws_tenures.specs.WorkedBegins.{ended, opened, was_refused, was_reset, BadBefore, Begins, LeftOpen, NoTest, Numbered, TestedAtEnd}
use Rattle.dsql_laws_tenures.proofs.Unbegun.{none_made}

lent_opened : IsLentTo able true begin 1 1 2 opened
lent_opened = record {
  begins = refl;
  tenure = record { beginning = refl; owner = refl };
  line = refl;
  numbered = refl;
  no_entries = refl;
  opened = refl;
  one_connection = refl;
  rising = omega arith;
  whole_before = λ _. refl;
  bad_here = refl;
  invalid_here = refl;
  not_refused = refl;
  not_shut = refl;
}

lent_reset : IsLentTo able true begin 1 1 2 was_reset
lent_reset = record {
  begins = refl;
  tenure = record { beginning = refl; owner = refl };
  line = refl;
  numbered = refl;
  no_entries = refl;
  opened = refl;
  one_connection = refl;
  rising = omega arith;
  whole_before = λ _. refl;
  bad_here = refl;
  invalid_here = refl;
  not_refused = refl;
  not_shut = refl;
}

lent_refused : IsLentTo able true begin 1 1 2 was_refused
lent_refused = record {
  begins = refl;
  tenure = record { beginning = refl; owner = refl };
  line = refl;
  numbered = refl;
  no_entries = refl;
  opened = refl;
  one_connection = refl;
  rising = omega arith;
  whole_before = λ _. refl;
  bad_here = refl;
  invalid_here = refl;
  not_refused = refl;
  not_shut = refl;
}

pub begins_are : Begins
begins_are = record {
  reset = record { lent = lent_opened; is = record { conn = refl; tenure = refl; owner = refl; call_no = refl; tx = refl }; due = refl; fits = refl; follows = refl };
  begun = record { lent = lent_reset; is = record { conn = refl; tenure = refl; owner = refl; call_no = refl; tx = refl }; due = refl; fits = refl; follows = refl };
  refused = record { lent = lent_reset; is = record { conn = refl; tenure = refl; owner = refl; call_no = refl; tx = refl }; due = refl; fits = refl; follows = refl };
  tested = record { lent = lent_refused; is = record { conn = refl; tenure = refl; owner = refl; call_no = refl; tx = refl }; due = refl; fits = refl; follows = refl };
  failed = record { lent = lent_refused; is = record { conn = refl; tenure = refl; owner = refl; call_no = refl; tx = refl }; due = refl; fits = refl; follows = refl };
  whole = refl;
}

pub left_open_is : LeftOpen
left_open_is = record { beginning = refl; not_whole = refl; no_reset = refl; no_begin = refl }

pub bad_before_is : BadBefore
bad_before_is = record { beginning = refl; no_begin = refl; tested = refl; no_begin_then = refl }

pub numbered_is : Numbered
numbered_is = record { beginning = refl; some = refl; not_again = refl; not_zero = refl; with_number = refl }

pub tested_is : TestedAtEnd
tested_is = record {
  has_ended = record {
    tenure = record { beginning = refl; owner = refl };
    ended = refl;
    one_connection = refl;
    under_way = refl;
    not_tested = refl;
    not_bad = refl;
    not_refused = refl;
    not_shut = refl;
  };
  test = record { conn = refl; tenure = refl; owner = refl; tx = refl; call = refl };
  opens = record { line = λ n. rw (none_made n 2 ended refl) refl };
  prepares = record { line = λ n. rw (none_made n 2 ended refl) refl };
  no_cursor = λ n rows. rw (none_made n 2 ended refl) refl;
  no_handle = λ n handle. rw (none_made n 2 ended refl) refl;
  fits = refl;
  follows = refl;
  follows_failing = refl;
}

pub no_test_is : NoTest
no_test_is = record { bad = refl; not_when_bad = refl; left = refl; not_when_left = refl }
