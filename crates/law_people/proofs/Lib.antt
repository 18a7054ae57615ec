pub mod PeopleLaws
pub mod CellLaws
pub mod SomeCustomers
pub mod ExampleLaws
