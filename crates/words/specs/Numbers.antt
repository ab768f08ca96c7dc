-- Values that are numbers, each with its range, and what stands where words give none.
-- This project's own.
use Rattle.std.specs.Prelude.{ℕ, ◌&&◌, Bool, true, Option, length, nat_le, nat_lt}
use Rattle.std.specs.List.{list_all}
use Rattle.std.specs.Option.{option_map_or}
use Rattle.std.specs.Char.{is_ascii_digit}
use Rattle.std.specs.Str.Parse.{digits_value}
use Rattle.words.specs.Reading.{Text}

-- an option whose value is a number, with the least and the greatest one, and the one that stands where it isn't given
pub record NumberOption : Type 0 where
  pub name : Text
  pub least : ℕ
  pub greatest : ℕ
  pub default : ℕ

-- an option of this name, from the least to the greatest number, and the default
abbrev pub number_option : Text → ℕ → ℕ → ℕ → NumberOption
number_option name least greatest default = record {
  name = name;
  least = least;
  greatest = greatest;
  default = default;
}

-- whether a text is 1 to 20 ASCII digits; zeros may lead
abbrev pub is_decimal : Text → Bool
is_decimal text = nat_lt 0 (length text) && (nat_le (length text) 20 && list_all is_ascii_digit text)

-- whether a text is such a number, from the least to the greatest
abbrev pub is_number : ℕ → ℕ → Text → Bool
is_number least greatest text =
    is_decimal text && (nat_le least (digits_value 10 text) && nat_le (digits_value 10 text) greatest)

-- whether what is given, if it is, is a number of the range
abbrev pub fits_text : ℕ → ℕ → Option Text → Bool
fits_text least greatest text = option_map_or (is_number least greatest) text true

-- the number that is given, or the default
abbrev pub number_or : ℕ → Option Text → ℕ
number_or default text = option_map_or (digits_value 10) text default

-- whether what is given for an option, if it is, is a number of its range
abbrev pub fits : (Text → Option Text) → NumberOption → Bool
fits look option = fits_text option.least option.greatest (look option.name)

-- the number that is given for an option, or its default
abbrev pub number_of : (Text → Option Text) → NumberOption → ℕ
number_of look option = number_or option.default (look option.name)
