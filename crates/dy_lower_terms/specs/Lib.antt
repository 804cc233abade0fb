pub mod RowCode
