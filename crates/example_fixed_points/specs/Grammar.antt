-- A grammar by four tables, with a row for each nonterminal.
--     nonterminal, token      the bit of a nonterminal;  of a token
--     leading_table, leading_tokens_table      the nonterminals that may stand first in a rule of a nonterminal;  the
--         tokens that may
--     enclosing_table, following_tokens_table      the nonterminals of which a rule may end with a nonterminal;  the
--         tokens that may stand after it within a rule
use Rattle.std.specs.Prelude.{ℕ, [], ◌∷◌, slice_index_or}
use Rattle.enumset.specs.Sets.{BitSet, empty, only, from_list, in_place}
use Rattle.example_fixed_points.specs.contracts.nonterminal.Nonterminal as grammar
use Rattle.example_fixed_points.specs.contracts.token.Token as text
use Rattle.example_fixed_points.specs.declared.nonterminal.Nonterminal.{Nonterminal}
use Rattle.example_fixed_points.specs.declared.nonterminal.Nonterminal.TheVariants.{Program, Statements, Statement, Binding, Assignment, Choice, Otherwise, Loop, Block, Expression, Comparison, Sum, MoreProducts, Product, Operand}
use Rattle.example_fixed_points.specs.declared.token.Token.{Token}
use Rattle.example_fixed_points.specs.declared.token.Token.TheVariants.{Let, Name, Semicolon, If, Else, While, OpenBrace, CloseBrace, Less, Plus, Minus, Number, OpenParen, CloseParen, End}

abbrev pub nonterminal : Nonterminal → ℕ
nonterminal v = (in_place grammar.the_type).bit v

abbrev pub token : Token → ℕ
token v = (in_place text.the_type).bit v

abbrev pub leading_table : ℕ → BitSet
leading_table q = slice_index_or
    (only (nonterminal Statements)
    ∷ only (nonterminal Statement)
    ∷ from_list (nonterminal Binding ∷ nonterminal Assignment ∷ nonterminal Choice ∷ nonterminal Loop ∷ nonterminal Block ∷ [])
    ∷ empty
    ∷ empty
    ∷ empty
    ∷ empty
    ∷ empty
    ∷ empty
    ∷ only (nonterminal Sum)
    ∷ empty
    ∷ only (nonterminal Product)
    ∷ empty
    ∷ only (nonterminal Operand)
    ∷ empty
    ∷ [])
    q
    empty

abbrev pub leading_tokens_table : ℕ → BitSet
leading_tokens_table q = slice_index_or
    (empty
    ∷ empty
    ∷ empty
    ∷ only (token Let)
    ∷ only (token Name)
    ∷ only (token If)
    ∷ only (token Else)
    ∷ only (token While)
    ∷ only (token OpenBrace)
    ∷ empty
    ∷ only (token Less)
    ∷ empty
    ∷ only (token Plus)
    ∷ only (token Minus)
    ∷ from_list (token Number ∷ token Name ∷ token OpenParen ∷ [])
    ∷ [])
    q
    empty

abbrev pub enclosing_table : ℕ → BitSet
enclosing_table q = slice_index_or
    (empty
    ∷ from_list (nonterminal Program ∷ nonterminal Statements ∷ [])
    ∷ only (nonterminal Statements)
    ∷ only (nonterminal Statement)
    ∷ only (nonterminal Statement)
    ∷ only (nonterminal Statement)
    ∷ only (nonterminal Choice)
    ∷ only (nonterminal Statement)
    ∷ from_list (nonterminal Statement ∷ nonterminal Choice ∷ nonterminal Otherwise ∷ nonterminal Loop ∷ [])
    ∷ empty
    ∷ only (nonterminal Expression)
    ∷ from_list (nonterminal Expression ∷ nonterminal Comparison ∷ [])
    ∷ from_list (nonterminal Sum ∷ nonterminal MoreProducts ∷ [])
    ∷ from_list (nonterminal Sum ∷ nonterminal MoreProducts ∷ nonterminal Product ∷ [])
    ∷ only (nonterminal Product)
    ∷ [])
    q
    empty

abbrev pub following_tokens_table : ℕ → BitSet
following_tokens_table q = slice_index_or
    (only (token End)
    ∷ only (token CloseBrace)
    ∷ from_list (token Let ∷ token Name ∷ token If ∷ token While ∷ token OpenBrace ∷ [])
    ∷ empty
    ∷ empty
    ∷ empty
    ∷ empty
    ∷ empty
    ∷ only (token Else)
    ∷ from_list (token Semicolon ∷ token OpenBrace ∷ token CloseParen ∷ [])
    ∷ empty
    ∷ only (token Less)
    ∷ empty
    ∷ only (token Plus)
    ∷ empty
    ∷ [])
    q
    empty
